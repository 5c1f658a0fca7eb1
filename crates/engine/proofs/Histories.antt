-- A history, made call by call.
use Rattle.std.proofs.Common.{◌≡◌, ℕ, ◌+◌, ◌-◌, ◌<◌, ◌≤◌, min, List, [], ◌∷◌, ◌++◌, Ok, Err, Result, MatchResult, IsOkAnd, map, length, get_or, take, drop, set, sym, refl, ap, ◌∙◌, subst, ap₂, arith, length-take-le, take_all, drop-drop, take_at, drop_at}
use native.Mathlib.Decide.{dec_lt}
use Rattle.std.proofs.lemmas.List.{take_more_set, map_more}
use Rattle.labels.specs.Order.{LabelOrder}
use Rattle.logics.specs.Entailment.{Entailment, Goal}
use Rattle.engine.specs.declared.sheet.Sheet.{Sheet}
use Rattle.engine.specs.declared.call.Call.{Call}
use Rattle.engine.specs.declared.call.Answer.{Answer}
use Rattle.engine.specs.declared.call.SheetFault.{SheetFault}
use Rattle.engine.specs.Book.{Book}
use Rattle.engine.specs.Law.{Buffers, buffers, front, back, SearchLeaves, Leaves, Lawfully, Next, Run, given}
use Rattle.engine.specs.Keeps.{answer}
use Rattle.engine.specs.Obeys.{Holds, Obeys, Leaving}
use Rattle.engine.specs.Makes.{Makes}

-- a result whose value is wrapped is the answer that it stands for
pub mapped : {A : Type 0} (f : A → Answer) (r : Result A SheetFault) (x : Result Answer SheetFault) → MatchResult r (λ v. IsOkAnd x (λ y. y ≡ f v)) (λ e. x ≡ Err e) → x ≡ answer f r
mapped f (Ok v) (Ok y) is = ap Ok is
mapped f (Ok v) (Err e) is = absurd is
mapped f (Err e) x is = is

-- the first places and bytes are those that the search was given, and the others are as they were
front_leaves : (k : LabelOrder) (l : Entailment) (b : Book) (g : Goal) (x : Result Answer SheetFault) (places area ps bs : List ℕ) (p w : ℕ) → length ps ≡ p → length bs ≡ w
    → SearchLeaves k l b g x (buffers (take p places) (take w area)) (buffers ps bs)
    → SearchLeaves k l b g x (front p w (buffers places area)) (front p w (buffers (ps ++ drop p places) (bs ++ drop w area)))
    × (back p w (buffers (ps ++ drop p places) (bs ++ drop w area)) ≡ back p w (buffers places area))
front_leaves k l b g x places area ps bs p w long wide leaves =
    let Q : List ℕ → List ℕ → Type 0 = λ qs cs. SearchLeaves k l b g x (buffers (take p places) (take w area)) (buffers qs cs) in
    let first : ps ≡ take p (ps ++ drop p places) = sym (take_at ps (drop p places) p long) in
    let bytes : bs ≡ take w (bs ++ drop w area) = sym (take_at bs (drop w area) w wide) in (
      subst (λ (qs : List ℕ). Q qs (take w (bs ++ drop w area))) first (subst (Q ps) bytes leaves),
      ap₂ buffers (drop_at ps (drop p places) p long) (drop_at bs (drop w area) w wide),
    )

module _ {K L : Type 0} (order : K → LabelOrder) (entails : L → Entailment) (s t : Sheet K L) where
  -- a call that is given no places and no bytes
  pub makes_plain : (p w : ℕ) (d : Buffers) (call c : Call) → call ≡ c → given p w c ≡ c → (x : Result Answer SheetFault)
      → ((b : Book) → Leaves (order s.kind) (entails s.logic) b c x d d) → Obeys order entails c x s t → Makes order entails (given p w call) x s d t d
  makes_plain p w d call c is plain x leaves obeys =
      let P : Call → Type 0 = λ q. Makes order entails q x s d t d in
      subst (λ (q : Call). P (given p w q)) (sym is) (subst P (sym plain) (record { obeys = obeys; leaves = λ b keeps. leaves b }))

  -- a call that searches, with the first n places and m bytes
  makes_first : (S : ℕ → ℕ → Call) (g : Goal)
      → ((b : Book) (p w : ℕ) (x : Result Answer SheetFault) (d e : Buffers) → SearchLeaves (order s.kind) (entails s.logic) b g x (front p w d) (front p w e) × (back p w e ≡ back p w d) → Leaves (order s.kind) (entails s.logic) b (S p w) x d e)
      → (places area ps bs : List ℕ) (n m : ℕ) → n ≤ length places → m ≤ length area
      → length ps ≡ length (take n places) → length bs ≡ length (take m area) → (x : Result Answer SheetFault)
      → Obeys order entails (S (length (take n places)) (length (take m area))) x s t
      → Leaving order entails s g x (buffers (take n places) (take m area)) (buffers ps bs)
      → Makes order entails (S n m) x s (buffers places area) t (buffers (ps ++ drop n places) (bs ++ drop m area))
  makes_first S g by places area ps bs n m few narrow long wide x obeys leaves =
      let ln : length (take n places) ≡ n = length-take-le n places few in
      let lm : length (take m area) ≡ m = length-take-le m area narrow in
      let asked : Obeys order entails (S n m) x s t =
      subst (λ (q : ℕ). Obeys order entails (S q m) x s t) ln
      (subst (λ (v : ℕ). Obeys order entails (S (length (take n places)) v) x s t) lm obeys) in
      record {
        obeys = asked;
        leaves = λ b keeps. by b n m x _ _ (front_leaves (order s.kind) (entails s.logic) b g x places area ps bs n m (long ∙ ln) (wide ∙ lm) (leaves b keeps));
      }

  -- the same, as the code counts the places and bytes
  pub makes_search : (S : ℕ → ℕ → Call) (g : Goal)
      → ((b : Book) (p w : ℕ) (x : Result Answer SheetFault) (d e : Buffers) → SearchLeaves (order s.kind) (entails s.logic) b g x (front p w d) (front p w e) × (back p w e ≡ back p w d) → Leaves (order s.kind) (entails s.logic) b (S p w) x d e)
      → (places area ps bs : List ℕ) (most bytes p w : ℕ) → p ≡ min most (length places) → w ≡ min bytes (length area)
      → length ps ≡ length (take p places) → length bs ≡ length (take w area) → (x : Result Answer SheetFault)
      → Obeys order entails (S (length (take p places)) (length (take w area))) x s t
      → Leaving order entails s g x (buffers (take p places) (take w area)) (buffers ps bs)
      → Makes order entails (S (min most (length places)) (min bytes (length area))) x s (buffers places area) t (buffers (ps ++ drop p places) (bs ++ drop w area))
  makes_search S g by places area ps bs most bytes p w pe we long wide x obeys leaves =
      let Q : ℕ → ℕ → Type 0 = λ n m. Makes order entails (S n m) x s (buffers places area) t (buffers (ps ++ drop p places) (bs ++ drop w area)) in
      subst (λ (n : ℕ). Q n (min bytes (length area))) pe
      (subst (Q p) we (makes_first S g by places area ps bs p w (omega arith) (omega arith) long wide x obeys leaves))

module _ (k : LabelOrder) (l : Entailment) where
  -- a history, with the book after it
  abbrev pub RunTo : Book → Buffers → List Call → List (Result Answer SheetFault) → Buffers → Book → Type 0
  RunTo b d [] [] e m = (e ≡ d) × (m ≡ b)
  RunTo b d [] (x ∷ xs) e m = ⊥
  RunTo b d (c ∷ cs) [] e m = ⊥
  RunTo b d (c ∷ cs) (x ∷ xs) e m =
      (n : Book) × (f : Buffers) × Lawfully k l b c x × Next k l b c n × Leaves k l b c x d f × RunTo n f cs xs e m

  pub run_of : (b : Book) (d : Buffers) (cs : List Call) (xs : List (Result Answer SheetFault)) (e : Buffers) (m : Book) → RunTo b d cs xs e m → Run k l b d cs xs e
  run_of b d [] [] e m (same, _) = same
  run_of b d [] (x ∷ xs) e m h = h
  run_of b d (c ∷ cs) [] e m h = h
  run_of b d (c ∷ cs) (x ∷ xs) e m (n, f, law, next, leaves, rest) = (n, f, law, next, leaves, run_of n f cs xs e m rest)

  -- one call more at its end
  pub run_more : (b : Book) (d : Buffers) (cs : List Call) (xs : List (Result Answer SheetFault)) (e : Buffers) (m : Book) → RunTo b d cs xs e m
      → (c : Call) (x : Result Answer SheetFault) (n : Book) (f : Buffers) → Lawfully k l m c x → Next k l m c n → Leaves k l m c x e f
      → RunTo b d (cs ++ (c ∷ [])) (xs ++ (x ∷ [])) f n
  run_more b d [] [] e m (same, here) c x n f law next leaves =
      let L : Buffers → Type 0 = λ a. Leaves k l b c x a f in (
        n,
        f,
        subst (λ (a : Book). Lawfully k l a c x) here law,
        subst (λ (a : Book). Next k l a c n) here next,
        subst L same (subst (λ (a : Book). Leaves k l a c x e f) here leaves),
        (refl, refl),
      )
  run_more b d [] (y ∷ ys) e m h c x n f law next leaves = absurd h
  run_more b d (a ∷ cs) [] e m h c x n f law next leaves = absurd h
  run_more b d (a ∷ cs) (y ∷ ys) e m (o, h, law₁, next₁, leaves₁, rest) c x n f law next leaves =
      (o, h, law₁, next₁, leaves₁, run_more o h cs ys e m rest c x n f law next leaves)

-- bs many of one list bs there are in another
pub take_fewer : {A B : Type 0} (xs : List A) (ys : List B) → take (min (length xs) (length ys)) xs ≡ take (length ys) xs
take_fewer xs ys =
    elim (dec_lt (length ys) (length xs)) [
      | yes lt ↦ let e : min (length xs) (length ys) ≡ length ys = omega arith in ap (λ (n : ℕ). take n xs) e
      | no ge ↦ take_all (min (length xs) (length ys)) xs (omega arith) ∙ sym (take_all (length ys) xs (omega arith))
    ]

-- one call more of a list of calls, made on a sheet of the same kind and logic, and its answer put in its place
pub run_step : {K L : Type 0} (order : K → LabelOrder) (entails : L → Entailment) (kind : K) (logic : L) (b : Book) (d : Buffers) (p w : ℕ) (calls : List Call) (answers : List (Result Answer SheetFault)) (i : ℕ)
    → i < length calls → i < length answers → (e : Buffers) (m : Book) → RunTo (order kind) (entails logic) b d (map (given p w) (take i calls)) (take i answers) e m
    → (s : Sheet K L) → s.kind ≡ kind → s.logic ≡ logic → Holds order entails s m
    → (none : Call) (x : Result Answer SheetFault) (t : Sheet K L) (f : Buffers) → Makes order entails (given p w (get_or calls i none)) x s e t f
    → (n : Book) × RunTo (order kind) (entails logic) b d (map (given p w) (take (i + 1) calls)) (take (i + 1) (set answers i x)) f n × Holds order entails t n
run_step order entails kind logic b d p w calls answers i lt lt' e m so_far s same_kind same_logic keeps none x t f makes =
    let c = given p w (get_or calls i none) in
    let (law, (n, next, kept)) = makes.obeys.law m keeps in
    let R : List Call → List (Result Answer SheetFault) → Type 0 = λ cs xs. RunTo (order kind) (entails logic) b d cs xs f n in
    let more : R (map (given p w) (take i calls) ++ (c ∷ [])) (take i answers ++ (x ∷ [])) =
    run_more (order kind) (entails logic) b d (map (given p w) (take i calls)) (take i answers) e m so_far c x n f
    (rw (sym same_kind, sym same_logic) law) (rw (sym same_kind, sym same_logic) next) (rw (sym same_kind, sym same_logic) (makes.leaves m keeps)) in
    (n, subst (λ (cs : List Call). R cs (take (i + 1) (set answers i x))) (sym (map_more (given p w) calls i none lt)) (subst (R (map (given p w) (take i calls) ++ (c ∷ []))) (sym (take_more_set answers i x lt')) more), kept)

-- the same call, by other names for how many places and bytes there are
pub makes_given : {K L : Type 0} (order : K → LabelOrder) (entails : L → Entailment) (s t : Sheet K L) (p p' w w' : ℕ) → p ≡ p' → w ≡ w' → (q : Call) (x : Result Answer SheetFault) (d e : Buffers)
    → Makes order entails (given p w q) x s d t e → Makes order entails (given p' w' q) x s d t e
makes_given order entails s t p p' w w' pe we q x d e makes =
    subst (λ (n : ℕ). Makes order entails (given n w' q) x s d t e) pe (subst (λ (n : ℕ). Makes order entails (given p n q) x s d t e) we makes)

-- what lies past a place lies past an earlier one
pub drop_later : {A : Type 0} (xs ys : List A) (i j : ℕ) → i ≤ j → drop i xs ≡ drop i ys → drop j xs ≡ drop j ys
drop_later xs ys i j le same =
    let on : i + (j - i) ≡ j = omega arith in
    subst (λ (n : ℕ). drop n xs ≡ drop n ys) on (sym (drop-drop (j - i) i xs) ∙ ap (drop (j - i)) same ∙ drop-drop (j - i) i ys)
