-- Worked rows.
use Rattle.std.proofs.Common.{◌≡◌, [], ◌∷◌, refl}
use Rattle.std.specs.Prelude.{codes}
use Rattle.hex.specs.Hex.{encode_with}
use Rattle.run_model.specs.declared.Device.TheVariants.{Unit as OfUnit, CardA}
use Rattle.state_text.specs.declared.line.Name.TheVariants as name
use Rattle.state_text.specs.declared.line.Value.TheVariants as value
use Rattle.state_text.specs.Shown.{shown, four_hex}
use Rattle.state_text.specs.Text.{line_text}

-- spaces at the end are cut, others stay; what is no printable character of ASCII is told by its digits
surname : shown (codes "van Doe    ") ≡ codes "van Doe"
surname = refl

foreign : shown (0xC4 ∷ 92 ∷ 10 ∷ 32 ∷ []) ≡ codes "\\xc4\\x5c\\x0a"
unfolding encode_with
foreign = refl

none : shown (codes "    ") ≡ []
none = refl

last_kept : line_text (codes "2010-03-01") (record { device = OfUnit; name = name.LastKept; value = value.Minute 21123809 }) ≡ codes "unit-last-kept 2010-03-01T07:29Z\n"
last_kept = refl

last_use : line_text (codes "2010-03-01") (record { device = CardA; name = name.LastUse; value = value.Second 1267428599 }) ≡ codes "card-a-last-use 2010-03-01T07:29:59Z\n"
last_use = refl

file : four_hex 0x0504 ≡ codes "0504"
unfolding encode_with
file = refl
