-- The known supports grow by one.
use Rattle.std.proofs.Common.{ℕ, ◌<◌, List, length, sym, refl, subst, inl, inr, ⊎_elim}
use Rattle.base.specs.Words.{In}
use Rattle.supports.specs.Asked.{Asked, Support, SomeSupports, MoreThan}
use Rattle.supports.specs.Search.{Joined, Grown}

module _ (q : Asked) {known more : List ℕ} where
  module _ {s : ℕ} (some : SomeSupports q known) (is : Support q s) (joined : Joined known s more) where
    joined_some : SomeSupports q more
    joined_some = record {
      sound = λ t h. ⊎_elim (λ e. subst (Support q) (sym e) is) (some.sound t) ((joined.members t).0 h);
      ascending = joined.ascending;
    }

    pub grown_joined : Grown q known more
    grown_joined = record { supports = joined_some; keeps = λ t h. (joined.members t).1 (inr h) }

    pub joined_many : (places : ℕ) → places < length more → MoreThan q places
    joined_many places many = (more, joined_some, many)

  pub grown_trans : {most : List ℕ} → Grown q known more → Grown q more most → Grown q known most
  grown_trans p r = record { supports = r.supports; keeps = λ t h. r.keeps t (p.keeps t h) }

pub grown_none : (q : Asked) {known : List ℕ} → SomeSupports q known → Grown q known known
grown_none q some = record { supports = some; keeps = λ t h. h }

pub joined_in : {known more : List ℕ} {s : ℕ} → Joined known s more → In s more
joined_in {known} {more} {s} joined = (joined.members s).1 (inl refl)
