-- Bytes that are cut at a separator.
use Rattle.std.proofs.Common.{◌≡◌, ℕ, zero, suc, ◌+◌, ◌<◌, Bool, true, false, cond, eqb, ◌⊎◌, List, [], ◌∷◌, ◌++◌, length, get_or, take, drop, count_by as count_by_of, unwrap_or, Option, Some, None, sym, refl, ap, ◌∙◌, subst, ap₂, inl, inr, append-nil, add-zero, arith, length-drop, take-append-drop, get_or-drop, eq-eqb, eqb-true}
use borrow.Author.Tests.{eqb-false}
use Rattle.std.proofs.lemmas.List.{drop_more}
use Rattle.std.proofs.lemmas.Grind.{common_steps}
use Rattle.std.proofs.lemmas.Bool.Decides.{Decides-eqb}
use Rattle.std.proofs.lemmas.Slice.Eq.{slice_eq-Decides, strip_prefix_is}
use lib.Pointwise.{pointwise}
use mathlib.Core.Logic.{◌≢◌}
use Rattle.base.specs.Words.{In}
use Rattle.base.specs.Commas.{tails}
use Rattle.lines.specs.Reading.{FirstPlace, Parted}

-- the separator does not stand in the bytes
abbrev pub Bare : ℕ → List ℕ → Type 0
Bare c bs = In c bs → ⊥

-- the first stretch without the separator is one
pub first_part : (c : ℕ) (f g xs ys : List ℕ) → Bare c f → Bare c g → f ++ (c ∷ xs) ≡ g ++ (c ∷ ys) → (f ≡ g) × (xs ≡ ys)
first_part c [] [] xs ys bf bg e = (refl, cc)
first_part c [] (b ∷ g) xs ys bf bg e = let h : c ≡ b = cc in absurd (bg (inl h))
first_part c (a ∷ f) [] xs ys bf bg e = let h : c ≡ a = cc in absurd (bf (inl h))
first_part c (a ∷ f) (b ∷ g) xs ys bf bg e =
    let h : a ≡ b = cc in
    let t : f ++ (c ∷ xs) ≡ g ++ (c ∷ ys) = cc in
    let (same, rest) = first_part c f g xs ys (λ i. bf (inr i)) (λ i. bg (inr i)) t in
    (ap₂ ◌∷◌ h same, rest)

pub in_middle : {A : Type 0} (x : A) (xs ys : List A) → In x (xs ++ (x ∷ ys))
in_middle x [] ys = inl refl
in_middle x (y ∷ xs) ys = inr (in_middle x xs ys)

in_append : (c : ℕ) (xs ys : List ℕ) → In c (xs ++ ys) → In c xs ⊎ In c ys
in_append c [] ys i = inr i
in_append c (x ∷ xs) ys (inl e) = inl (inl e)
in_append c (x ∷ xs) ys (inr i) = elim (in_append c xs ys i) [ inl h ↦ inl (inr h) | inr h ↦ inr h ]

pub bare_append : (c : ℕ) (xs ys : List ℕ) → Bare c xs → Bare c ys → Bare c (xs ++ ys)
bare_append c xs ys bx by i = elim (in_append c xs ys i) [ inl h ↦ bx h | inr h ↦ by h ]

-- what a search for the separator shows
pub bare_take : (c : ℕ) (bs : List ℕ) (r : ℕ) → ((k : ℕ) → k < r → get_or bs k 0 ≡ c → ⊥) → Bare c (take r bs)
bare_take c [] zero none i = i
bare_take c [] (suc r) none i = i
bare_take c (b ∷ bs) zero none i = i
bare_take c (b ∷ bs) (suc r) none (inl e) = none 0 (omega arith) (sym e)
bare_take c (b ∷ bs) (suc r) none (inr i) = bare_take c bs r (λ k lt e. none (suc k) (omega arith) e) i

pub cut_at : (c : ℕ) (bs : List ℕ) (r : ℕ) → r < length bs → get_or bs r 0 ≡ c → bs ≡ take r bs ++ (c ∷ drop (r + 1) bs)
cut_at c bs r lt e = grind (arith, common_steps, drop_more bs r 0 lt, take-append-drop r bs)

abbrev pub comma : ℕ → Bool
comma b = eqb b 44

-- a byte more in front
count_by : (b : ℕ) (bs : List ℕ) (t : Bool) → eqb b 44 ≡ t → count_by_of comma (b ∷ bs) ≡ cond t 1 0 + count_by_of comma bs
count_by b bs t is = grind (arith, common_steps)

-- each of the fields has no comma
abbrev pub AllBare : List (List ℕ) → Type 0
AllBare fs = (f : List ℕ) → In f fs → Bare 44 f

all_bare : (f : List ℕ) (fs : List (List ℕ)) → Bare 44 f → AllBare fs → AllBare (f ∷ fs)
all_bare f fs bf bs g (inl e) = subst (Bare 44) (sym e) bf
all_bare f fs bf bs g (inr i) = bs g i

-- all bytes are a first field and further ones behind commas
pub record Cut (bs : List ℕ) : Type 0 where
  pub first : List ℕ
  pub others : List (List ℕ)
  pub bytes : bs ≡ first ++ tails others
  pub bare : AllBare (first ∷ others)
  pub count : length others ≡ count_by_of comma bs

pub cut : (bs : List ℕ) → Cut bs
cut [] = record { first = []; others = []; bytes = refl; bare = all_bare [] [] (λ i. i) (λ f i. absurd i); count = refl }
cut (b ∷ bs) = cases (cut bs) (eqb b 44) refl
  where
    cases : Cut bs → (t : Bool) → eqb b 44 ≡ t → Cut (b ∷ bs)
    cases c true is =
        record {
          first = [];
          others = c.first ∷ c.others;
          bytes = ap₂ ◌∷◌ (eqb-true b 44 is) c.bytes;
          bare = all_bare [] (c.first ∷ c.others) (λ i. i) c.bare;
          count = omega (arith, c.count, count_by b bs true is);
        }
    cases c false is =
        record {
          first = b ∷ c.first;
          others = c.others;
          bytes = ap (λ (l : List ℕ). b ∷ l) c.bytes;
          bare = all_bare (b ∷ c.first) c.others (λ i. elim i [ inl e ↦ eqb-false b 44 is (sym e) | inr h ↦ c.bare c.first (inl refl) h ]) (λ f i. c.bare f (inr i));
          count = omega (arith, c.count, count_by b bs false is);
        }

-- bytes that are none, or begin with a comma, are fields behind commas
pub parted_of : (bs : List ℕ) → (0 < length bs → get_or bs 0 0 ≡ 44) → (fs : List (List ℕ)) × Parted bs fs × (length fs ≡ count_by_of comma bs)
parted_of [] begins = ([], record { bytes = refl; bare = λ f i. absurd i }, refl)
parted_of (b ∷ bs) begins =
    let c = cut bs in
    let is : b ≡ 44 = begins (omega arith) in
    (c.first ∷ c.others, record { bytes = ap₂ ◌∷◌ is c.bytes; bare = c.bare }, omega (arith, c.count, count_by b bs true (eq-eqb b 44 is)))

count_append : (xs ys : List ℕ) → count_by_of comma (xs ++ ys) ≡ count_by_of comma xs + count_by_of comma ys
count_append xs ys = grind (arith, common_steps)

count_bare : (f : List ℕ) → Bare 44 f → count_by_of comma f ≡ 0
count_bare [] bare = refl
count_bare (b ∷ f) bare = grind (arith, count_by b f, count_bare f (λ i. bare (inr i)))

-- as many commas as fields
count_tails : (fs : List (List ℕ)) → AllBare fs → count_by_of comma (tails fs) ≡ length fs
count_tails [] bare = refl
count_tails (f ∷ fs) bare = omega (arith, count_by 44 (f ++ tails fs) true refl, count_append f (tails fs), count_bare f (bare f (inl refl)), count_tails fs (λ g i. bare g (inr i)))

pub count_parted : (bs : List ℕ) (fs : List (List ℕ)) → Parted bs fs → count_by_of comma bs ≡ length fs
count_parted bs fs p = ap (count_by_of comma) p.bytes ∙ count_tails fs p.bare

pub begins_parted : (bs : List ℕ) (fs : List (List ℕ)) → Parted bs fs → 0 < length bs → get_or bs 0 0 ≡ 44
begins_parted bs [] p some = absurd (omega (arith, ap length p.bytes))
begins_parted bs (f ∷ fs) p some = ap (λ (l : List ℕ). get_or l 0 0) p.bytes

-- the fields are one list
parts : (f : List ℕ) (fs : List (List ℕ)) (g : List ℕ) (gs : List (List ℕ)) → AllBare (f ∷ fs) → AllBare (g ∷ gs) → f ++ tails fs ≡ g ++ tails gs → (f ≡ g) × (tails fs ≡ tails gs)
parts f [] g [] bf bg e = (sym (append-nil f) ∙ e ∙ append-nil g, refl)
parts f [] g (h ∷ hs) bf bg e = absurd (omega (arith, ap (count_by_of comma) e, count_append f [], count_append g (tails (h ∷ hs)), count_bare f (bf f (inl refl)), count_tails (h ∷ hs) (λ k i. bg k (inr i))))
parts f (h ∷ hs) g [] bf bg e = absurd (omega (arith, ap (count_by_of comma) e, count_append g [], count_append f (tails (h ∷ hs)), count_bare g (bg g (inl refl)), count_tails (h ∷ hs) (λ k i. bf k (inr i))))
parts f (h ∷ hs) g (k ∷ ks) bf bg e =
    let (same, rest) = first_part 44 f g (h ++ tails hs) (k ++ tails ks) (bf f (inl refl)) (bg g (inl refl)) e in
    (same, ap (λ (l : List ℕ). 44 ∷ l) rest)

pub fields_unique : (fs gs : List (List ℕ)) → AllBare fs → AllBare gs → tails fs ≡ tails gs → fs ≡ gs
fields_unique [] [] bf bg e = refl
fields_unique [] (g ∷ gs) bf bg e = absurd (omega (arith, ap length e))
fields_unique (f ∷ fs) [] bf bg e = absurd (omega (arith, ap length e))
fields_unique (f ∷ fs) (g ∷ gs) bf bg e =
    let t : f ++ tails fs ≡ g ++ tails gs = cc in
    let (same, rest) = parts f fs g gs bf bg t in
    ap₂ ◌∷◌ same (fields_unique fs gs (λ h i. bf h (inr i)) (λ h i. bg h (inr i)) rest)

-- bytes up to the next comma have none, and fields begin there
cut_field : (bs : List ℕ) (o : Option ℕ) → FirstPlace 44 bs o
    → let r = unwrap_or o (length bs) in Bare 44 (take r bs) × (0 < length (drop r bs) → get_or (drop r bs) 0 0 ≡ 44)
cut_field bs None before = (bare_take 44 bs (length bs) before, λ some. absurd (omega (arith, length-drop (length bs) bs)))
cut_field bs (Some r) (within, found, before) = (bare_take 44 bs r before, λ some. get_or-drop r bs 0 0 ∙ ap (λ (i : ℕ). get_or bs i 0) (add-zero r) ∙ found)

-- a search for the next comma finds the end of the first field
pub first_field : (b : ℕ) (bs : List ℕ) (o : Option ℕ) → FirstPlace 44 bs o → (fields : List (List ℕ)) → Parted (b ∷ bs) fields
    → let r = unwrap_or o (length bs) in (others : List (List ℕ)) × (fields ≡ take r bs ∷ others) × Parted (drop r bs) others
first_field b bs o search [] p = absurd (let e = p.bytes in cc)
first_field b bs o search (f ∷ fs) p =
    let r = unwrap_or o (length bs) in
    let (bare, begins) = cut_field bs o search in
    let (others, q, _) = parted_of (drop r bs) begins in
    let t : bs ≡ f ++ tails fs = let e = p.bytes in cc in
    let (same, rest) = parts (take r bs) others f fs (all_bare (take r bs) others bare q.bare) p.bare (ap (λ (l : List ℕ). take r bs ++ l) (sym q.bytes) ∙ take-append-drop r bs ∙ t) in
    (fs, ap (λ (g : List ℕ). g ∷ fs) (sym same), record { bytes = q.bytes ∙ rest; bare = λ g i. p.bare g (inr i) })

-- where no bytes are, no fields are
pub no_fields : (fields : List (List ℕ)) (bs : List ℕ) → Parted bs fields → length bs ≡ 0 → fields ≡ []
no_fields [] bs p none = refl
no_fields (f ∷ fs) bs p none = absurd (omega (arith, ap length p.bytes))

-- what a word shows of the bytes that begin with it, and of those that do not
pub stripped : (bs word : List ℕ) → pointwise eqb (take (length word) bs) word ≡ true → bs ≡ word ++ drop (length word) bs
stripped bs word is =
    sym (take-append-drop (length word) bs) ∙ ap (λ (l : List ℕ). l ++ drop (length word) bs) ((slice_eq-Decides Decides-eqb (take (length word) bs) word true (sym is)).0 refl)

pub not_stripped : (bs word rest : List ℕ) → pointwise eqb (take (length word) bs) word ≡ false → bs ≢ word ++ rest
not_stripped bs word rest is = strip_prefix_is Decides-eqb bs word None is rest
