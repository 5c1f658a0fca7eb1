-- Arrays that a closure makes, element by element, where no call changes the closure, and lists that are written entry by entry.
use Rattle.std.proofs.Common.{◌≡◌, ℕ, zero, suc, ◌+◌, ◌<◌, ◌≤◌, List, length, get_or, set, sym, subst, arith, get_or-set_other, get_or-set_same}
use Rattle.std.proofs.Math.Decide.{ℕ_discrete}
use Rattle.std.specs.Fn.{Called}
use Rattle.std.specs.Array.{IsFromFnResult, IsFromFnResultFrom, IsMapOf, MapsFrom}
use denote.Param.Members.{Mut}

-- `array::from_fn`: what each call gives at its index, the array has there
module _ {F B : Type 0} (g : Mut F (ℕ × Unit {0}) B) (P : ℕ → B → Type 0) (f : F) (step : (i : ℕ) (y : B) (f' : F) → Called g f (i, tt) y f' → P i y × (f' ≡ f)) where
  calls : (ys : List B) (i n : ℕ) → IsFromFnResultFrom g f ys i n → (k : ℕ) (d : B) → i ≤ k → k < i + n → P k (get_or ys k d)
  calls ys i zero made k d low high = absurd (omega arith)
  calls ys i (suc n) (q, y, is, called, rest) k d low high =
      let (here, same) = step i y q called in
      elim (ℕ_discrete k i) [
        | yes e ↦ subst (λ (x : ℕ). P x (get_or ys x d)) (sym e) (subst (P i) (sym (is.1 d)) here)
        | no ne ↦ calls ys (i + 1) n (subst (λ (h : F). IsFromFnResultFrom g h ys (i + 1) n) same rest) k d (omega arith) (omega arith)
      ]

  pub from_fn_same : (ys : List B) (n : ℕ) → IsFromFnResult g f ys n → (k : ℕ) (d : B) → k < n → P k (get_or ys k d)
  from_fn_same ys n made k d l = calls ys 0 n made.each k d (omega arith) (omega arith)

-- an array's `map`: what a call gives of each element, the new array has in its place
module _ {F A B : Type 0} (g : Mut F (A × Unit {0}) B) (P : A → B → Type 0) (f : F) (step : (x : A) (y : B) (f' : F) → Called g f (x, tt) y f' → P x y × (f' ≡ f)) where
  maps : (xs : List A) (ys : List B) (i n : ℕ) → MapsFrom g f xs ys i n → (k : ℕ) (d : A) (e : B) → i ≤ k → k < i + n → P (get_or xs k d) (get_or ys k e)
  maps xs ys i zero made k d e low high = absurd (omega arith)
  maps xs ys i (suc n) (q, x, y, is, gives, called, rest) k d e low high =
      let (here, same) = step x y q called in
      elim (ℕ_discrete k i) [
        | yes at ↦
            subst (λ (j : ℕ). P (get_or xs j d) (get_or ys j e)) (sym at)
            (subst (λ (v : A). P v (get_or ys i e)) (sym (is.1 d)) (subst (P x) (sym (gives.1 e)) here))
        | no ne ↦ maps xs ys (i + 1) n (subst (λ (h : F). MapsFrom g h xs ys (i + 1) n) same rest) k d e (omega arith) (omega arith)
      ]

  pub map_same : (xs : List A) (ys : List B) (n : ℕ) → IsMapOf g f xs ys n → (k : ℕ) (d : A) (e : B) → k < n → P (get_or xs k d) (get_or ys k e)
  map_same xs ys n made k d e l = maps xs ys 0 n made.each k d e (omega arith) (omega arith)

-- a rule of the entries below i, once entry i has been written by it
pub fill_more : {A : Type 0} (P : ℕ → A → Type 0) (xs : List A) (i : ℕ) (v d : A) → i < length xs
    → ((k : ℕ) → k < i → P k (get_or xs k d)) → P i v → (k : ℕ) → k < i + 1 → P k (get_or (set xs i v) k d)
fill_more {A} P xs i v d within done here k h =
    elim (ℕ_discrete k i) [
      | yes e ↦ subst (λ (x : ℕ). P x (get_or (set xs i v) x d)) (sym e) (rw (get_or-set_same xs i v d within) here)
      | no ne ↦ rw (get_or-set_other xs i k v d ne) (done k (omega arith))
    ]
