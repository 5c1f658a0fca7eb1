-- Text that is refused is refused by one fault.
use Rattle.std.proofs.Common.{◌≡◌, ℕ, List, Option, sym, refl, ◌∙◌, subst}
use Rattle.base.specs.Words.{In}
use Rattle.lines.specs.declared.fault.TextFault.{TextFault}
use Rattle.lines.specs.declared.form.Form.{Form}
use Rattle.lines.specs.Forms.{May}
use Rattle.lines.specs.Reading.{Shaped, Ended, TextFails, endless, shapeless, misplaced, unreadable}
use Rattle.lines.proofs.Fields.{in_middle, first_part}
use Rattle.lines.proofs.Openings.{same_opening}

ended_has : (bs line after : List ℕ) → Ended bs line after → In 10 bs
ended_has bs line after ended = subst (In 10) (sym ended.split) (in_middle 10 line after)

module _ (bs l a m b : List ℕ) (e : Ended bs l a) (d : Ended bs m b) where
  one_line : l ≡ m
  one_line = (first_part 10 l m a b e.first d.first (sym e.split ∙ d.split)).0

  shaped_here : (f : Form) (fs : List (List ℕ)) → Shaped m f fs → Shaped l f fs
  shaped_here f fs s = subst (λ (k : List ℕ). Shaped k f fs) (sym one_line) s

  -- the line has one form, so it may stand in both cases or in none
  may_here : (last : Option Form) (users : ℕ) (f g : Form) (fs gs : List (List ℕ)) → Shaped l f fs → Shaped m g gs → May last users g → May last users f
  may_here last users f g fs gs s t may = subst (May last users) (sym (same_opening f g s.rest t.rest (sym s.opened ∙ one_line ∙ t.opened))) may

module _ (last : Option Form) (users : ℕ) (bs : List ℕ) where
  pub one_fault : (f g : TextFault) → TextFails last users bs f → TextFails last users bs g → f ≡ g
  one_fault f g (endless _) (endless _) = refl
  one_fault f g (endless _) (shapeless _ _ _ _) = refl
  one_fault f g (endless none) (misplaced l a e _ _ _ _) = absurd (none (ended_has bs l a e))
  one_fault f g (endless none) (unreadable l a e _ _ _ _ _ _ _) = absurd (none (ended_has bs l a e))
  one_fault f g (shapeless _ _ _ _) (endless _) = refl
  one_fault f g (shapeless _ _ _ _) (shapeless _ _ _ _) = refl
  one_fault f g (shapeless l a e none) (misplaced m b d h hs s _) = absurd (none h hs (shaped_here bs l a m b e d h hs s))
  one_fault f g (shapeless l a e none) (unreadable m b d h hs s _ _ _ _) = absurd (none h hs (shaped_here bs l a m b e d h hs s))
  one_fault f g (misplaced l a e _ _ _ _) (endless none) = absurd (none (ended_has bs l a e))
  one_fault f g (misplaced m b d h hs s _) (shapeless l a e none) = absurd (none h hs (shaped_here bs l a m b e d h hs s))
  one_fault f g (misplaced _ _ _ _ _ _ _) (misplaced _ _ _ _ _ _ _) = refl
  one_fault f g (misplaced l a e h hs s never) (unreadable m b d k ks t may _ _ _) = absurd (never (may_here bs l a m b e d last users h k hs ks s t may))
  one_fault f g (unreadable l a e _ _ _ _ _ _ _) (endless none) = absurd (none (ended_has bs l a e))
  one_fault f g (unreadable m b d h hs s _ _ _ _) (shapeless l a e none) = absurd (none h hs (shaped_here bs l a m b e d h hs s))
  one_fault f g (unreadable m b d k ks t may _ _ _) (misplaced l a e h hs s never) = absurd (never (may_here bs l a m b e d last users h k hs ks s t may))
  one_fault f g (unreadable _ _ _ _ _ _ _ _ _ _) (unreadable _ _ _ _ _ _ _ _ _ _) = refl
