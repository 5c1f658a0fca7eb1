-- Chains of links: what one more link leads to, and where ticked cells stand for what is reached.
use Rattle.std.specs.Prelude.{◌≡◌, ℕ, List, refl}
use Rattle.std.proofs.Common.{sym, subst, inl, inr}
use Rattle.base.specs.Words.{In}
use Rattle.logics.specs.Entailment.{Each, Goal}
use Rattle.logics.specs.Links.{Link, Chain, one, more, Leads, links}
use Rattle.logics.specs.Plan.{Laid, links_plan}
use Rattle.logics.specs.WorkArea.{Ticked, Settled}
use Rattle.logics.specs.declared.Record.{Record}

pub leads_on : (rs : List Record) (r : Record) (s : ℕ) → In r rs → r.form ≡ 5 → Leads rs (s, r.a) → Leads rs (s, r.b)
leads_on rs r s i f (inl e) = inr (one (record { by = r; given = i; form = f; from = sym e; to = refl }))
leads_on rs r s i f (inr c) = inr (more c (record { by = r; given = i; form = f; from = refl; to = refl }))

module _ {rs : List Record} (cells : List ℕ) (settled : Each (λ r. Settled r.a r.a r.b cells) rs) where
  over : {a b : ℕ} → Link rs a b → Ticked cells a → Ticked cells b
  over l t =
      let here = subst (Ticked cells) (sym l.from) t in
      subst (Ticked cells) l.to (settled l.by l.given here here)

  along : {a b : ℕ} → Chain rs a b → Ticked cells a → Ticked cells b
  along (one l) t = over l t
  along (more c l) t = over l (along c t)

  pub reached : (g : Goal) → Leads rs g → Ticked cells g.0 → Ticked cells g.1
  reached g (inl e) t = subst (Ticked cells) e t
  reached g (inr c) t = along c t

module _ {xs ys : List Record} (sub : (x : Record) → In x xs → In x ys) where
  longer : {a b : ℕ} → Chain xs a b → Chain ys a b
  longer (one l) = one (record { by = l.by; given = sub l.by l.given; form = l.form; from = l.from; to = l.to })
  longer (more c l) = more (longer c) (record { by = l.by; given = sub l.by l.given; form = l.form; from = l.from; to = l.to })

  pub leads_more : (g : Goal) → Leads xs g → Leads ys g
  leads_more g (inl e) = inl e
  leads_more g (inr c) = inr (longer c)

-- the cells of a goal that links takes
pub links_laid : (n : ℕ) (g : Goal) → (links n).TakesGoal g → Laid (links_plan n) g
links_laid n g taken =
    record {
      within = taken.1;
      same = refl;
      first_within = taken.0;
      second_within = taken.0;
      first_may = λ rs. inl refl;
      second_may = λ rs. inl refl;
    }
