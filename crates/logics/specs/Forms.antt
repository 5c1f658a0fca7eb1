-- The forms of axioms, by their numbers.
use Rattle.std.specs.Prelude.{◌≡◌, ℕ, ◌<◌, ◌⊎◌, Result, MatchResult}
use Rattle.logics.specs.declared.form.Form.{Form}
use Rattle.logics.specs.declared.form.Form.TheVariants.{Lies, Both, Partner, Source, Link}
use Rattle.logics.specs.declared.form.UnknownForm.{UnknownForm}

-- the number of each form
abbrev pub number_of : Form → ℕ
number_of Lies = 1
number_of Both = 2
number_of Partner = 3
number_of Source = 4
number_of Link = 5

-- the result is the form with the number, or gives back a number that no form has
abbrev pub Decodes : ℕ → Result Form UnknownForm → Type 0
Decodes number r = MatchResult r (λ form. number_of form ≡ number) (λ e. (e.0 ≡ number) × ((number < 1) ⊎ (5 < number)))
