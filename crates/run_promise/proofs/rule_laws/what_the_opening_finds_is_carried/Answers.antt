use Rattle.std.proofs.Common.{◌≡◌, ℕ, List}
use Rattle.run_course.specs.trace_model.declared.Card.{Card}
use Rattle.run_course.specs.trace_model.declared.Card.TheVariants.{A, B}
use Rattle.tach_media.specs.Medium.{State, IsCoherent}
use Rattle.unit_rule.specs.device_rule.Own.{IsOwnValid}
use Rattle.unit_rule.specs.Safe.{card_of}
use Rattle.run_promise.specs.Found.{Found, found_of}
use Rattle.run_promise.specs.Between.{devices}
use Rattle.run_promise.specs.Opening.{BeginsAs, IsLookedAt}
use Rattle.run_promise.proofs.Opening.{first-carried}
use Rattle.run_promise.proofs.rule_laws.what_the_opening_finds_is_carried.Goals as goal

-- of one card and the other
abbrev image_of : (a b : List ℕ) → Card → List ℕ
image_of a b A = a
image_of a b B = b

each-whole : (unit a b : State) → IsCoherent a → IsCoherent b → (c : Card) → IsCoherent (card_of (devices unit a b) c)
each-whole unit a b first second A = first
each-whole unit a b first second B = second

each-begins : (x y : List ℕ) (unit a b : State) → BeginsAs x a → BeginsAs y b → (c : Card) → BeginsAs (image_of x y c) (card_of (devices unit a b) c)
each-begins x y unit a b first second A = first
each-begins x y unit a b first second B = second

each-image : (f : Found) (x y : List ℕ) → (found_of f A).image ≡ x → (found_of f B).image ≡ y → (c : Card) → (found_of f c).image ≡ image_of x y c
each-image f x y first second A = first
each-image f x y first second B = second

each-looked : (f : Found) (u x y : List ℕ) (unit a b : State) → (IsOwnValid x → IsLookedAt f A u x a.clock) → (IsOwnValid y → IsLookedAt f B u y b.clock) → (c : Card) → IsOwnValid (image_of x y c) → IsLookedAt f c u (image_of x y c) (card_of (devices unit a b) c).clock
each-looked f u x y unit a b first second A = first
each-looked f u x y unit a b first second B = second

pub returns : goal.returns
returns g z = λ f u x y due decodes late unit_begins a_begins b_begins unit_is a_is b_is a_looked b_looked.
    let unit = g.M.Medium.state z.args.unit.now in
    let a = g.C.Chip.state z.args.card_a.now in
    let b = g.D.Chip.state z.args.card_b.now in
    first-carried f u due (image_of x y) (devices unit a b) (g.met.M.Medium.coherent z.args.unit.now) (each-whole unit a b (g.met.C.Chip.coherent z.args.card_a.now) (g.met.D.Chip.coherent z.args.card_b.now))
    unit_begins (each-begins x y unit a b a_begins b_begins) decodes late unit_is (each-image f x y a_is b_is) (each-looked f u x y unit a b a_looked b_looked)
