-- The meet of a set of axioms and the join over a list of supports, step by step.
use Rattle.std.proofs.Common.{◌≡◌, ℕ, zero, suc, ◌+◌, ◌<◌, List, [], ◌∷◌, ◌++◌, length, get_or, take, Some, None, Option, sym, refl, ap, ◌∙◌, subst, inl, inr, ⊎_elim, add-one, arith}
use native.Mathlib.Decide.{ℕ_discrete}
use Rattle.std.proofs.lemmas.List.{take_more, get_or_default}
use Rattle.base.specs.Bits.{Has}
use Rattle.base.specs.Words.{In}
use Rattle.base.proofs.Sets.{has_or_not}
use Rattle.ordered.proofs.Lists.{in_append}
use Rattle.labels.specs.Order.{LabelOrder, Label, Under, Greatest, Least, Top, Meets, Joins, Lawful}
use Rattle.logics.specs.Entailment.{Entailment, Goal}
use Rattle.engine.specs.declared.page.Page.{Page}
use Rattle.engine.specs.Book.{Book}
use Rattle.engine.specs.Sight.{PageAt, AllSupports, MeetOf, IsBoundary}

-- each axiom entered has a page
pub page_of : (b : Book) (i : ℕ) → i < length b.pages → (p : Page) × PageAt b i p
page_of b i within = let (p, is) = find b.pages i within in (p, (within, is))
  where
    find : (ps : List Page) (i : ℕ) → i < length ps → (p : Page) × (get_or ps i p ≡ p)
    find [] i lt = absurd (omega arith)
    find (p ∷ ps) zero lt = (p, refl)
    find (p ∷ ps) (suc i) lt = find ps i (omega arith)

-- and only one
pub page_same : (b : Book) (i : ℕ) (p q : Page) → PageAt b i p → PageAt b i q → p ≡ q
page_same b i p q at_p at_q = sym at_p.1 ∙ get_or_default b.pages i p q at_p.0 ∙ at_q.1

-- the label of every page is a label of the order
abbrev pub LabelsTaken : LabelOrder → Book → Type 0
LabelsTaken k b = (i : ℕ) (p : Page) → PageAt b i p → Label k p.label

-- m is the greatest label at or below the latest label of each of the first n axioms that is in s
pub record MeetUpTo (k : LabelOrder) (b : Book) (s n m : ℕ) : Type 0 where
  pub label : Label k m
  pub under : (i : ℕ) (p : Page) → i < n → Has s i → PageAt b i p → Under k m p.label
  pub greatest : (c : ℕ) → Label k c → ((i : ℕ) (p : Page) → i < n → Has s i → PageAt b i p → Under k c p.label) → Under k c m

module _ (k : LabelOrder) (b : Book) where
  -- one axiom more, which is not in the set
  pub meet_skip : (s n m : ℕ) → (Has s n → ⊥) → MeetUpTo k b s n m → MeetUpTo k b s (n + 1) m
  meet_skip s n m none done = record {
    label = done.label;
    under = λ i q lt h at_q.
        elim (ℕ_discrete i n) [ yes e ↦ absurd (none (subst (λ (j : ℕ). Has s j) e h)) | no ne ↦ done.under i q (omega arith) h at_q ];
    greatest = λ c is below. done.greatest c is (λ i q lt h at_q. below i q (omega arith) h at_q);
  }

  -- after the last axiom
  pub meet_all : (s m : ℕ) → MeetUpTo k b s (length b.pages) m → MeetOf k b s m
  meet_all s m done = record {
    label = done.label;
    under = λ i p h at. done.under i p at.0 h at;
    greatest = λ c is below. done.greatest c is (λ i p lt h at. below i p h at);
  }

module _ (k : LabelOrder) (laws : Lawful k) (b : Book) where
  -- the top is a label
  pub top_label : (t : ℕ) → Top k t → Label k t
  top_label t top = (top 0 laws.some).high

  -- before the first axiom
  pub meet_none : (s t : ℕ) → Top k t → MeetUpTo k b s 0 t
  meet_none s t top = record { label = top_label t top; under = λ i p lt. absurd (omega arith); greatest = λ c is _. top c is }

  -- one axiom of the set more
  pub meet_more : (s n m r : ℕ) (p : Page) → MeetUpTo k b s n m → Has s n → PageAt b n p → Greatest k m p.label r → MeetUpTo k b s (n + 1) r
  meet_more s n m r p done here at meet = record {
    label = meet.left.low;
    under = λ i q lt h at_q.
        elim (ℕ_discrete i n) [
          | yes e ↦ subst (λ (x : Page). Under k r x.label) (page_same b n p q at (subst (λ (j : ℕ). PageAt b j q) e at_q)) meet.right
          | no ne ↦ laws.transitive r m q.label meet.left (done.under i q (omega arith) h at_q)
        ];
    greatest = λ c is below.
        meet.greatest c (done.greatest c is (λ i q lt h at_q. below i q (omega arith) h at_q)) (below n p (omega arith) here at);
  }

  -- the same, by what the question for a meet answers
  pub meet_asked : (s n m r : ℕ) (p : Page) → MeetUpTo k b s n m → Has s n → PageAt b n p → Label k p.label → Meets k m p.label r
      → MeetUpTo k b s (n + 1) r
  meet_asked s n m r p done here at label answer = meet_more s n m r p done here at (answer.0 done.label label)

  -- a set has one meet
  pub meet_unique : (s m n : ℕ) → MeetOf k b s m → MeetOf k b s n → m ≡ n
  meet_unique s m n is is' =
      laws.antisymmetric m n (is'.greatest m is.label is.under) (is.greatest n is'.label is'.under)

  module _ (taken : LabelsTaken k b) where
    -- along the first n axioms
    meet_up_to : (s n : ℕ) → n < length b.pages + 1 → (m : ℕ) × MeetUpTo k b s n m
    meet_up_to s zero within = let (t, top) = laws.top in (t, meet_none s t top)
    meet_up_to s (suc n) within =
        let (m, done) = meet_up_to s n (omega arith) in
        let next : (r : ℕ) → MeetUpTo k b s (n + 1) r → (r : ℕ) × MeetUpTo k b s (suc n) r = λ r is. (r, rw add-one at is) in
        elim (has_or_not s n) [
          | inl here ↦
              let (p, at) = page_of b n (omega arith) in
              let (r, meet) = laws.meets m p.label done.label (taken n p at) in
              next r (meet_more s n m r p done here at meet)
          | inr none ↦ next m (meet_skip k b s n m none done)
        ]

    -- every set has a meet
    pub meet_exists : (s : ℕ) → (m : ℕ) × MeetOf k b s m
    meet_exists s = let (m, done) = meet_up_to s (length b.pages) (omega arith) in (m, meet_all k b s m done)

-- v is the least label at or above the meet of each set of the list
pub record JoinOf (k : LabelOrder) (b : Book) (ss : List ℕ) (v : ℕ) : Type 0 where
  pub some : (s : ℕ) × In s ss
  pub label : Label k v
  pub above : (s m : ℕ) → In s ss → MeetOf k b s m → Under k m v
  pub least : (w : ℕ) → Label k w → ((s m : ℕ) → In s ss → MeetOf k b s m → Under k m w) → Under k v w

-- absent for the empty list
abbrev pub JoinUpTo : LabelOrder → Book → List ℕ → Option ℕ → Type 0
JoinUpTo k b ss None = ss ≡ []
JoinUpTo k b ss (Some v) = JoinOf k b ss v

-- before the first set
pub join_none : (k : LabelOrder) (b : Book) → JoinUpTo k b [] None
join_none k b = refl

module _ (k : LabelOrder) (laws : Lawful k) (b : Book) where
  -- the first set
  pub join_first : (s m : ℕ) → MeetOf k b s m → JoinUpTo k b (s ∷ []) (Some m)
  join_first s m is = record {
    some = (s, inl refl);
    label = is.label;
    above = λ t n h at.
        ⊎_elim
        (λ e. subst (λ (x : ℕ). Under k x m) (meet_unique k laws b s m n is (subst (λ (x : ℕ). MeetOf k b x n) e at)) (laws.reflexive m is.label))
        (λ none. absurd none) h;
    least = λ w _ below. below s m (inl refl) is;
  }

  -- one set more
  pub join_more : (ss : List ℕ) (v s m r : ℕ) → JoinUpTo k b ss (Some v) → MeetOf k b s m → Least k v m r → JoinUpTo k b (ss ++ (s ∷ [])) (Some r)
  join_more ss v s m r done is join = record {
    some = (s, (in_append s ss (s ∷ [])).1 (inr (inl refl)));
    label = join.left.high;
    above = λ t n h at.
        ⊎_elim (λ old. laws.transitive n v r (done.above t n old at) join.left)
        (λ new. laws.transitive n m r ((join_first s m is).above t n new at) join.right)
        ((in_append t ss (s ∷ [])).0 h);
    least = λ w label below.
        join.least w (done.least w label (λ t n h at. below t n ((in_append t ss (s ∷ [])).1 (inl h)) at))
        (below s m ((in_append s ss (s ∷ [])).1 (inr (inl refl))) is);
  }

  -- the same along the entries of a list
  module _ (ss : List ℕ) (i m : ℕ) (within : i < length ss) (is : MeetOf k b (get_or ss i 0) m) where
    pub join_take_first : JoinUpTo k b (take i ss) None → JoinUpTo k b (take (i + 1) ss) (Some m)
    join_take_first none =
        let one : take (i + 1) ss ≡ get_or ss i 0 ∷ [] = take_more ss i 0 within ∙ ap (λ (xs : List ℕ). xs ++ (get_or ss i 0 ∷ [])) none in
        subst (λ (xs : List ℕ). JoinOf k b xs m) (sym one) (join_first (get_or ss i 0) m is)

    pub join_take_more : (v r : ℕ) → JoinUpTo k b (take i ss) (Some v) → Least k v m r → JoinUpTo k b (take (i + 1) ss) (Some r)
    join_take_more v r done join =
        subst (λ (xs : List ℕ). JoinOf k b xs r) (sym (take_more ss i 0 within)) (join_more (take i ss) v (get_or ss i 0) m r done is join)

    -- by what the question for a join answers
    pub join_asked : (v r : ℕ) → JoinUpTo k b (take i ss) (Some v) → Joins k v m r → JoinUpTo k b (take (i + 1) ss) (Some r)
    join_asked v r done answer = join_take_more v r done (answer.0 done.label is.label)

module _ (k : LabelOrder) (l : Entailment) (b : Book) (g : Goal) where
  -- over all supports, the join is the boundary
  pub join_all : (ss : List ℕ) (v : Option ℕ) → AllSupports l b g ss → JoinUpTo k b ss v → IsBoundary k l b g v
  join_all ss None all none = λ s is. subst (In s) none (all.complete s is)
  join_all ss (Some v) all done = record {
    supported = let (s, h) = done.some in (s, all.sound s h);
    label = done.label;
    above = λ s m is. done.above s m (all.complete s is);
    least = λ w label below. done.least w label (λ s m h. below s m (all.sound s h));
  }

  -- and back
  pub boundary_join : (ss : List ℕ) (v : ℕ) → AllSupports l b g ss → IsBoundary k l b g (Some v) → JoinUpTo k b ss (Some v)
  boundary_join ss v all is = record {
    some = let (s, h) = is.supported in (s, all.complete s h);
    label = is.label;
    above = λ s m h. is.above s m (all.sound s h);
    least = λ w label below. is.least w label (λ s m h. below s m (all.complete s h));
  }

  -- a goal has one boundary
  pub boundary_unique : Lawful k → (v w : Option ℕ) → IsBoundary k l b g v → IsBoundary k l b g w → v ≡ w
  boundary_unique laws None None is is' = refl
  boundary_unique laws None (Some w) none is = let (s, h) = is.supported in absurd (none s h)
  boundary_unique laws (Some v) None is none = let (s, h) = is.supported in absurd (none s h)
  boundary_unique laws (Some v) (Some w) is is' =
      ap {B = Option ℕ} Some (laws.antisymmetric v w (is.least w is'.label is'.above) (is'.least v is.label is.above))

-- a bound that is made to cover one more label: the label itself where there was no bound, else the join
abbrev pub Widened : LabelOrder → Option ℕ → ℕ → ℕ → Type 0
Widened k None a r = r ≡ a
Widened k (Some v) a r = Joins k v a r

-- one support more, as the code widens its bound
pub join_widened : (k : LabelOrder) → Lawful k → (b : Book) (ss : List ℕ) (i m : ℕ) → i < length ss → MeetOf k b (get_or ss i 0) m → (v : Option ℕ) (r : ℕ)
    → JoinUpTo k b (take i ss) v → Widened k v m r → JoinUpTo k b (take (i + 1) ss) (Some r)
join_widened k laws b ss i m within is None r done e = rw e (join_take_first k laws b ss i m within is done)
join_widened k laws b ss i m within is (Some v) r done joins = join_asked k laws b ss i m within is v r done joins
