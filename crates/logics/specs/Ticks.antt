-- Cells that are ticked, one after another.
use Rattle.std.specs.Prelude.{cond, ◌==◌, ◌≡◌, ℕ, ◌<◌, ◌≤◌, Bool, true, false, ◌||◌, ◌≢◌, zero, suc, List, [], ◌∷◌, length, drop, slice_index, slice_set, refl}
use Rattle.std.proofs.Common.{sym, ap, subst, ◌∙◌, arith, get_or-set_same, get_or-set_other}
use Rattle.std.specs.Bool.{MatchBool}
use Rattle.std.proofs.lemmas.List.Sums.{sum_by-set}
use Rattle.std.proofs.Math.Decide.{ℕ_discrete}
use Rattle.std.proofs.lemmas.Bool.{true≢false, false≢true}
use Rattle.logics.specs.WorkArea.{Ticked, blanks, Inferred, Settled, Sound, Ticking}

blanks_tick : (l : List ℕ) (k : ℕ) → k < length l → slice_index l k ≡ 0 → blanks (slice_set l k 1) < blanks l
blanks_tick l k lt e =
    let moved = sum_by-set (λ x. cond (x == 0) 1 0) l k 1 0 lt in
    omega (arith, rw e at moved)

-- what lies behind the cells is left
drop_tick : (l : List ℕ) (n k : ℕ) → k < n → drop n (slice_set l k 1) ≡ drop n l
drop_tick [] n k lt = refl
drop_tick (x ∷ xs) zero k lt = absurd (omega arith)
drop_tick (x ∷ xs) (suc n) zero lt = refl
drop_tick (x ∷ xs) (suc n) (suc k) lt = drop_tick xs n k (omega arith)

kept_tick : (l : List ℕ) (k j : ℕ) → k < length l → Ticked l j → Ticked (slice_set l k 1) j
kept_tick l k j lt h =
    elim (ℕ_discrete j k) [
      | yes e ↦ rw e (rw get_or-set_same (omega arith))
      | no ne ↦ let other : j ≢ k = ne in rw get_or-set_other h
    ]

only_tick : (l : List ℕ) (k j : ℕ) → (j ≢ k) → Ticked (slice_set l k 1) j → Ticked l j
only_tick l k j ne h = let other : j ≢ k = ne in rw get_or-set_other at h

module _ {bytes : ℕ} {May : ℕ → Type 0} where
  -- nothing is ticked where nothing is to be
  pub tick_none : {Done : List ℕ → Type 0} {before after : List ℕ} → after ≡ before → Done after → Ticking bytes May Done before after false
  tick_none e d =
      record {
        others = rw e refl;
        kept = λ j h. rw e h;
        sound = λ all. rw e all;
        fewer = λ never. absurd (false≢true never);
        done = λ _. (e, d);
      }

  -- one cell that may be ticked
  pub tick_one : (k : ℕ) (before after : List ℕ) (changed : Bool) → k < bytes → bytes ≤ length before → (Sound bytes May before → May k) → MatchBool changed ((slice_index before k ≡ 0) × (after ≡ slice_set before k 1)) (Ticked before k × (after ≡ before)) → Ticking bytes May (λ l. Ticked l k) before after changed
  tick_one k before after true lt wide may (blank, e) =
      let low : k < length before = omega arith in
      record {
        others = rw e (drop_tick before bytes k lt);
        kept = λ j h. rw e (kept_tick before k j low h);
        sound = λ all j within h. elim (ℕ_discrete j k) [ yes same ↦ rw same (may all) | no ne ↦ all j within (only_tick before k j ne (rw e at h)) ];
        fewer = λ _. rw e (blanks_tick before k low blank);
        done = λ never. absurd (true≢false never);
      }
  tick_one k before after false lt wide may (ticked, e) = tick_none e (rw e ticked)

  -- one after the other
  pub tick_then : {D E F : List ℕ → Type 0} {a b c : List ℕ} (s t : Bool) → Ticking bytes May D a b s → Ticking bytes May E b c t → ((l : List ℕ) → D l → E l → F l) → Ticking bytes May F a c (s || t)
  tick_then {D} {E} {F} {a} {b} {c} s t p q both =
      record {
        others = q.others ∙ p.others;
        kept = λ j h. q.kept j (p.kept j h);
        sound = λ all. q.sound (p.sound all);
        fewer = fewer s t p.fewer q.fewer (λ e. (p.done e).0) (λ e. (q.done e).0);
        done = done s t p.done q.done;
      }
    where
      fewer : (s t : Bool) → (s ≡ true → blanks b < blanks a) → (t ≡ true → blanks c < blanks b) → (s ≡ false → b ≡ a) → (t ≡ false → c ≡ b) → (s || t) ≡ true → blanks c < blanks a
      fewer true true f g h i _ = omega (arith, f refl, g refl)
      fewer true false f g h i _ = omega (arith, f refl, ap blanks (i refl))
      fewer false true f g h i _ = omega (arith, g refl, ap blanks (h refl))
      fewer false false f g h i never = absurd (false≢true never)

      done : (s t : Bool) → (s ≡ false → (b ≡ a) × D b) → (t ≡ false → (c ≡ b) × E c) → (s || t) ≡ false → (c ≡ a) × F c
      done true t f g never = absurd (true≢false never)
      done false true f g never = absurd (true≢false never)
      done false false f g _ =
          let here = g refl in
          (here.0 ∙ (f refl).0, both c (subst D (sym here.0) (f refl).1) here.1)

  pub tick_weaker : {D E : List ℕ → Type 0} {a b : List ℕ} {s : Bool} → ((l : List ℕ) → D l → E l) → Ticking bytes May D a b s → Ticking bytes May E a b s
  tick_weaker weaker p =
      record {
        others = p.others;
        kept = p.kept;
        sound = p.sound;
        fewer = p.fewer;
        done = λ e. ((p.done e).0, weaker _ (p.done e).1);
      }

  -- one cell that may be ticked once two others are
  pub infer_one : (p q k : ℕ) (before after : List ℕ) (changed : Bool) → k < bytes → bytes ≤ length before → (Sound bytes May before → Ticked before p → Ticked before q → May k) → MatchBool changed (Inferred p q k before after) (Settled p q k before × (after ≡ before)) → Ticking bytes May (Settled p q k) before after changed
  infer_one p q k before after true lt wide may i =
      tick_weaker (λ l t _ _. t) (tick_one k before after true lt wide (λ all. may all i.first i.second) (i.blank, i.is))
  infer_one p q k before after false lt wide may (settled, e) = tick_none e (rw e settled)
