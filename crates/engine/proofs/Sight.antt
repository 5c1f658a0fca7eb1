-- What a user may see, by the boundary of a goal.
use Rattle.std.proofs.Common.{◌≡◌, ℕ, zero, suc, ◌+◌, ◌-◌, ◌^◌, ◌<◌, ◌≤◌, Bool, true, false, T, ◌⊎◌, List, [], ◌∷◌, length, Some, None, Option, refl, subst, inl, inr, ⊎_elim, add-one, arith, MatchOption}
use native.Mathlib.Decide.{ℕ_discrete, dec_lt}
use lib.Bits.{bit_and}
use Rattle.base.specs.Bits.{Has, Subset}
use Rattle.base.specs.Words.{Iff, In}
use Rattle.base.proofs.Sets.{has_or_not, has_zero, has_ones, and_subset, subset_le, same_set, Gathered, gather_more, gather_skip}
use Rattle.labels.specs.Order.{LabelOrder, Label, Under, Least, JoinPrime, Lawful}
use Rattle.logics.specs.Entailment.{Entailment, Goal, Monotone}
use Rattle.supports.specs.Asked.{Asked}
use Rattle.supports.specs.Search.{Shrunk, DroppedOne}
use Rattle.supports.proofs.Yielding.{yields_more}
use Rattle.supports.proofs.Shrinking.{shrink_one, shrunk_support}
use Rattle.engine.specs.declared.page.Page.{Page}
use Rattle.engine.specs.Book.{Book}
use Rattle.engine.specs.Sight.{entries, PageAt, InForce, Yields, Support, AllSupports, MeetOf, LeastAbove, IsBoundary, Visible, Sees}
use Rattle.engine.proofs.Boundaries.{page_of, page_same, LabelsTaken, meet_exists, join_first}

-- a set of axioms in force fits in a word
pub in_force_small : (b : Book) → length b.pages ≤ 64 → (v : ℕ) → ((i : ℕ) → Has v i → InForce b i) → v < 2 ^ 64
in_force_small b few v in_force =
    let inside : Subset v (2 ^ 64 - 1) = λ i h. let (p, at, up) = in_force i h in (has_ones 64 i).1 (omega (arith, at.0)) in
    omega (arith, subset_le v (2 ^ 64 - 1) inside)

module _ (l : Entailment) (monotone : Monotone l) (b : Book) (g : Goal) where
  -- what is asked of the axioms of v
  abbrev within : ℕ → Asked
  within v = record { logic = l; records = entries b; all = v; goal = g }

  -- no set can be without a part that is shrunk up to n
  shrinks : (v : ℕ) → Yields l b g v → (n : ℕ) → ((now : ℕ) → Shrunk (within v) v now n → ⊥) → ⊥
  shrinks v y zero none = none v (record { inside = λ i h. h; yields = y; needed = λ j lt. absurd (omega arith) })
  shrinks v y (suc n) none = shrinks v y n step
    where
      step : (now : ℕ) → Shrunk (within v) v now n → ⊥
      step now done =
          let next : (r : ℕ) → DroppedOne (within v) now n r → ⊥ = λ r one. none r (rw add-one at (shrink_one (within v) monotone v now n done r one)) in
          elim (has_or_not now n) [
            | inl here ↦ next now (inr (refl, λ _ still. next (now - 2 ^ n) (inl (here, refl, still))))
            | inr lacks ↦ next now (inr (refl, λ here. absurd (lacks here)))
          ]

  -- a set of axioms in force that yields the goal cannot be without a support inside it
  pub support_within : length b.pages ≤ 64 → (v : ℕ) → ((i : ℕ) → Has v i → InForce b i) → Yields l b g v
      → ((s : ℕ) → Support l b g s → Subset s v → ⊥) → ⊥
  support_within few v in_force y none =
      shrinks v y 64
      (λ s done.
      let small : s < 2 ^ 64 = omega (arith, subset_le s v done.inside, in_force_small b few v in_force) in
      let is = shrunk_support (within v) monotone v s small (λ i h. h) done in
      none s (record { in_force = λ i h. in_force i (is.in_force i h); yields = is.yields; minimal = is.minimal }) done.inside)

-- whether some set of a list lies within v
pub within_some : (ss : List ℕ) (v : ℕ) → ((s : ℕ) × In s ss × Subset s v) ⊎ ((s : ℕ) → In s ss → Subset s v → ⊥)
within_some [] v = inr (λ s h. absurd h)
within_some (s ∷ ss) v =
    elim (ℕ_discrete (bit_and s v) s) [
      | yes e ↦ inl (s, inl refl, (and_subset s v).0 e)
      | no ne ↦
          elim (within_some ss v) [
            | inl p ↦ inl (p.0, inr p.1, p.2)
            | inr none ↦ inr (λ t h sub. ⊎_elim (λ e. ne ((and_subset s v).1 (subst (λ (x : ℕ). Subset x v) e sub))) (λ later. none t later sub) h)
          ]
    ]

-- a is at or below c exactly when their meet is a
pub under_or_not : (k : LabelOrder) → Lawful k → (a c : ℕ) → Label k a → Label k c → Under k a c ⊎ (Under k a c → ⊥)
under_or_not k laws a c la lc =
    let (m, meet) = laws.meets a c la lc in
    elim (ℕ_discrete m a) [
      | yes e ↦ inl (subst (λ (x : ℕ). Under k x c) e meet.right)
      | no ne ↦ inr (λ under. ne (laws.antisymmetric m a meet.left (meet.greatest a (laws.reflexive a la) under)))
    ]

holds_or_not : (x : Bool) → T x ⊎ (T x → ⊥)
holds_or_not true = inl tt
holds_or_not false = inr (λ h. h)

-- the places below n of a property that is decided at each
pub gathered : (P : ℕ → Type 0) → ((i : ℕ) → P i ⊎ (P i → ⊥)) → (n : ℕ) → (s : ℕ) × Gathered P s n
gathered P decide zero = (0, λ i. (λ h. absurd (has_zero i h), λ p. absurd (omega (arith, p.0))))
gathered P decide (suc n) =
    let (s, done) = gathered P decide n in
    let next : (r : ℕ) → Gathered P r (n + 1) → (r : ℕ) × Gathered P r (suc n) = λ r is. (r, subst (Gathered P r) (add-one n) is) in
    elim (decide n) [ inl here ↦ next _ (gather_more P s n done (2 ^ n) refl here) | inr none ↦ next s (gather_skip P s n done none) ]

module _ (k : LabelOrder) (b : Book) (u : ℕ) where
  -- a user sees one set of axioms
  pub visible_unique : (s t : ℕ) → Visible k b u s → Visible k b u t → s ≡ t
  visible_unique s t is is' = same_set s t (λ i. (λ h. (is' i).1 ((is i).0 h), λ h. (is i).1 ((is' i).0 h)))

  -- what is visible is in force
  pub visible_in_force : (s : ℕ) → Visible k b u s → (i : ℕ) → Has s i → InForce b i
  visible_in_force s is i h = let (p, at, up, under) = (is i).0 h in (p, at, up)

  -- the user is at or below the label of each axiom in a part of what is visible
  pub visible_under : (s t : ℕ) → Visible k b u s → Subset t s → (i : ℕ) (p : Page) → Has t i → PageAt b i p → Under k u p.label
  visible_under s t is sub i p h at =
      let (q, at_q, up, under) = (is i).0 (sub i h) in subst (λ (x : Page). Under k u x.label) (page_same b i q p at_q at) under

  module _ (laws : Lawful k) (taken : LabelsTaken k b) (known : Label k u) where
    abbrev VisibleAt : ℕ → Type 0
    VisibleAt i = (p : Page) × PageAt b i p × T p.stands × Under k u p.label

    visible_or_not : (i : ℕ) → VisibleAt i ⊎ (VisibleAt i → ⊥)
    visible_or_not i =
        elim (dec_lt i (length b.pages)) [
          | no none ↦ inr (λ seen. none seen.1.0)
          | yes within ↦
              let (p, at) = page_of b i within in
              let same : VisibleAt i → T p.stands × Under k u p.label =
              λ (q, at_q, up, under). subst (λ (x : Page). T x.stands × Under k u x.label) (page_same b i q p at_q at) (up, under) in
              elim (holds_or_not p.stands) [
                | inr down ↦ inr (λ seen. down (same seen).0)
                | inl up ↦
                    elim (under_or_not k laws u p.label known (taken i p at)) [
                      | inr apart ↦ inr (λ seen. apart (same seen).1)
                      | inl under ↦ inl (p, at, up, under)
                    ]
              ]
        ]

    -- the set of the visible axioms
    pub visible_set : (s : ℕ) × Visible k b u s
    visible_set =
        let (s, is) = gathered VisibleAt visible_or_not (length b.pages) in
        (s, λ i. (λ h. ((is i).0 h).1, λ seen. (is i).1 (seen.1.0, seen)))

  -- it fits in a word
  pub visible_small : length b.pages ≤ 64 → (s : ℕ) → Visible k b u s → s < 2 ^ 64
  visible_small few s is = in_force_small b few s (visible_in_force s is)

-- w is above the meet of each set of a list, and where u is under w, it is under each label of one of them
record Covers (k : LabelOrder) (b : Book) (u : ℕ) (ss : List ℕ) (w : ℕ) : Type 0 where
  label : Label k w
  above : (s m : ℕ) → In s ss → MeetOf k b s m → Under k m w
  splits : Under k u w → (s : ℕ) × In s ss × ((i : ℕ) (p : Page) → Has s i → PageAt b i p → Under k u p.label)

module _ (k : LabelOrder) (laws : Lawful k) (b : Book) (u : ℕ) where
  -- u is under the label of each axiom of a set whose meet it is under
  under_each : (s m : ℕ) → MeetOf k b s m → Under k u m → (i : ℕ) (p : Page) → Has s i → PageAt b i p → Under k u p.label
  under_each s m is under i p h at = laws.transitive u m p.label under (is.under i p h at)

  -- of one set, its meet
  one_covers : (s m : ℕ) → MeetOf k b s m → Covers k b u (s ∷ []) m
  one_covers s m is = record {
    label = is.label;
    above = (join_first k laws b s m is).above;
    splits = λ under. (s, inl refl, under_each s m is under);
  }

  -- of one set more, the join: a join prime label under it is under one of the two
  more_covers : JoinPrime k u → (s m : ℕ) → MeetOf k b s m → (ss : List ℕ) (w r : ℕ) → Covers k b u ss w → Least k m w r → Covers k b u (s ∷ ss) r
  more_covers prime s m is ss w r rest join = record {
    label = join.left.high;
    above = λ t n h at.
        ⊎_elim (λ e. laws.transitive n m r ((join_first k laws b s m is).above t n (inl e) at) join.left)
        (λ later. laws.transitive n w r (rest.above t n later at) join.right)
        h;
    splits = λ under.
        ⊎_elim (λ first. (s, inl refl, under_each s m is first)) (λ later. let (t, h, each) = rest.splits later in (t, inr h, each))
        (prime.splits m w r join under);
  }

  -- some label is above the meets of all
  some_covers : LabelsTaken k b → JoinPrime k u → (s : ℕ) (ss : List ℕ) → (w : ℕ) × Covers k b u (s ∷ ss) w
  some_covers taken prime s [] = let (m, is) = meet_exists k laws b taken s in (m, one_covers s m is)
  some_covers taken prime s (t ∷ ts) =
      let (m, is) = meet_exists k laws b taken s in
      let (w, rest) = some_covers taken prime t ts in
      let (r, join) = laws.joins m w is.label rest.label in
      (r, more_covers prime s m is (t ∷ ts) w r rest join)

module _ (k : LabelOrder) (l : Entailment) (laws : Lawful k) (monotone : Monotone l) (b : Book) (g : Goal) (taken : LabelsTaken k b) where
  -- a join prime label under the boundary is under each label of some support
  pub prime_support : (u : ℕ) → JoinPrime k u → (ss : List ℕ) → AllSupports l b g ss → (v : ℕ) → LeastAbove k l b g v → Under k u v
      → (s : ℕ) × Support l b g s × ((i : ℕ) (p : Page) → Has s i → PageAt b i p → Under k u p.label)
  prime_support u prime [] all v is under = let (s, h) = is.supported in absurd (all.complete s h)
  prime_support u prime (s ∷ ss) all v is under =
      let (w, covers) = some_covers k laws b u taken prime s ss in
      let below : Under k v w = is.least w covers.label (λ t m h. covers.above t m (all.complete t h)) in
      let (t, h, each) = covers.splits (laws.transitive u v w under below) in
      (t, all.sound t h, each)

  -- who is under the boundary sees the goal
  pub under_sees : (u : ℕ) → JoinPrime k u → (ss : List ℕ) → AllSupports l b g ss → (v : ℕ) → LeastAbove k l b g v → Under k u v → Sees k l b u g
  under_sees u prime ss all v is under =
      let (t, support, each) = prime_support u prime ss all v is under in
      let (s, visible) = visible_set k b u laws taken prime.known in
      let inside : Subset t s = λ i h. let (p, at, up) = support.in_force i h in (visible i).1 (p, at, up, each i p h at) in
      (s, visible, yields_more (within l monotone b g s) monotone t s inside support.yields)

  -- who sees the goal is under the boundary, join prime or not
  pub sees_under : length b.pages ≤ 64 → (u : ℕ) → Label k u → (v : ℕ) → LeastAbove k l b g v → Sees k l b u g → Under k u v
  sees_under few u known v is (s, visible, yields) =
      elim (under_or_not k laws u v known is.label) [
        | inl under ↦ under
        | inr apart ↦
            absurd
            (support_within l monotone b g few s (visible_in_force k b u s visible) yields
            (λ t support inside.
            let (m, meet) = meet_exists k laws b taken t in
            apart (laws.transitive u m v (meet.greatest u known (visible_under k b u s t visible inside)) (is.above t m support meet))))
      ]

  -- the theorem of sight: a user sees a goal exactly from at or below its boundary
  pub sees_boundary : length b.pages ≤ 64 → (u : ℕ) → JoinPrime k u → (ss : List ℕ) → AllSupports l b g ss → (v : ℕ) → LeastAbove k l b g v
      → Iff (Under k u v) (Sees k l b u g)
  sees_boundary few u prime ss all v is = (under_sees u prime ss all v is, sees_under few u prime.known v is)

-- no user sees a goal without a support
pub sees_nothing : (k : LabelOrder) (l : Entailment) → Monotone l → (b : Book) (g : Goal) → length b.pages ≤ 64 → (u : ℕ)
    → ((s : ℕ) → Support l b g s → ⊥) → Sees k l b u g → ⊥
sees_nothing k l monotone b g few u none (s, visible, yields) =
    support_within l monotone b g few s (visible_in_force k b u s visible) yields (λ t support _. none t support)

-- both cases in one: what the answer to a user is, from the boundary
pub sees_by : (k : LabelOrder) (l : Entailment) → Lawful k → Monotone l → (b : Book) (g : Goal) → LabelsTaken k b → length b.pages ≤ 64
    → (u : ℕ) → JoinPrime k u → (ss : List ℕ) → AllSupports l b g ss → (v : Option ℕ) → IsBoundary k l b g v
    → Iff (MatchOption v ⊥ (Under k u)) (Sees k l b u g)
sees_by k l laws monotone b g taken few u prime ss all None none = (λ h. absurd h, sees_nothing k l monotone b g few u none)
sees_by k l laws monotone b g taken few u prime ss all (Some v) is = sees_boundary k l laws monotone b g taken few u prime ss all v is
