-- What is counted or kept is the same where its parts are.
use Rattle.std.proofs.Common.{◌≡◌, ◌∙◌, ℕ, Bool, true, false, not, refl, ap, arith}
use Rattle.std.specs.Prelude.{Option}
use Rattle.std.specs.Bool.{OnFalse}
use Rattle.activity_codec.specs.Activity.{activity_of}
use Rattle.activity_codec.specs.declared.values.Activity.{Activity}
use Rattle.activity_codec.specs.declared.values.Pick.{Pick}
use Rattle.activity_codec.specs.declared.values.Pick.TheVariants.{Rest, Available, Work}
use Rattle.minute_model.specs.declared.Rule.{Rule}
use Rattle.minute_model.specs.declared.Rule.TheVariants.{Original, Amended}
use Rattle.minute_model.specs.Minute.{minutes_ahead}
use Rattle.minute_rules.specs.declared.counted.Counted.{Counted}
use Rattle.minute_rules.specs.declared.minutes.Moment.{Moment}
use Rattle.minute_rules.specs.declared.slots.CodriverSlot.{CodriverSlot}
use Rattle.minute_rules.specs.declared.slots.DriverSlot.{DriverSlot}
use Rattle.minute_rules.specs.declared.tally.Tally.{Tally}

pub flag_off : (a b : Bool) → a ≡ true → OnFalse (not b) (a ≡ b)
flag_off a true on = on
flag_off a false on = tt

pub flag_on : (a b : Bool) → a ≡ false → OnFalse b (a ≡ b)
flag_on a true off = tt
flag_on a false off = off

pub same_pick : (a b : Pick) → activity_of a ≡ activity_of b → a ≡ b
same_pick Rest Rest h = refl
same_pick Rest Available h = cc
same_pick Rest Work h = cc
same_pick Available Rest h = cc
same_pick Available Available h = refl
same_pick Available Work h = cc
same_pick Work Rest h = cc
same_pick Work Available h = cc
same_pick Work Work h = refl

pub same_rule : (a b : Rule) → minutes_ahead a ≡ minutes_ahead b → a ≡ b
same_rule Original Original h = refl
same_rule Original Amended h = absurd (omega (arith, h))
same_rule Amended Original h = absurd (omega (arith, h))
same_rule Amended Amended h = refl

pub same_tally : (a b : Tally) → a.best ≡ b.best → a.best_seconds ≡ b.best_seconds → a.going ≡ b.going → a.going_seconds ≡ b.going_seconds → a ≡ b
same_tally a b p q r s =
    ap (λ (x : Activity). record a { best = x }) p
    ∙ ap (λ (n : ℕ). record a { best = b.best; best_seconds = n }) q
    ∙ ap (λ (x : Activity). record b { going = x; going_seconds = a.going_seconds }) r
    ∙ ap (λ (n : ℕ). record b { going_seconds = n }) s

pub same_counts : (a b : Counted) → a.driver ≡ b.driver → a.open_seconds ≡ b.open_seconds → a.drives ≡ b.drives → a.codriver ≡ b.codriver → a.travelled ≡ b.travelled → a ≡ b
same_counts a b p q r s t =
    ap (λ (x : Tally). record a { driver = x }) p
    ∙ ap (λ (n : ℕ). record a { driver = b.driver; open_seconds = n }) q
    ∙ ap (λ (x : Bool). record a { driver = b.driver; open_seconds = b.open_seconds; drives = x }) r
    ∙ ap (λ (x : Tally). record b { codriver = x; travelled = a.travelled }) s
    ∙ ap (λ (n : ℕ). record b { travelled = n }) t

pub same_driver : (a b : DriverSlot) → a.current ≡ b.current → a.waiting ≡ b.waiting → a.early ≡ b.early → a.picked ≡ b.picked → a ≡ b
same_driver a b p q r s =
    ap (λ (x : Pick). record a { current = x }) p
    ∙ ap (λ (x : Option ℕ). record a { current = b.current; waiting = x }) q
    ∙ ap (λ (x : Option Pick). record b { early = x; picked = a.picked }) r
    ∙ ap (λ (x : Option Pick). record b { picked = x }) s

pub same_codriver : (a b : CodriverSlot) → a.current ≡ b.current → a.picked ≡ b.picked → a ≡ b
same_codriver a b p q = ap (λ (x : Pick). record a { current = x }) p ∙ ap (λ (x : Option Pick). record b { picked = x }) q

pub same_moment : (a b : Moment) → a.rule ≡ b.rule → a.next ≡ b.next → a.owing ≡ b.owing → a.here ≡ b.here → a.driver ≡ b.driver → a.codriver ≡ b.codriver → a ≡ b
same_moment a b p q r s t u =
    ap (λ (x : Rule). record a { rule = x }) p
    ∙ ap (λ (n : ℕ). record a { rule = b.rule; next = n }) q
    ∙ ap (λ (n : ℕ). record a { rule = b.rule; next = b.next; owing = n }) r
    ∙ ap (λ (x : Counted). record b { here = x; driver = a.driver; codriver = a.codriver }) s
    ∙ ap (λ (x : DriverSlot). record b { driver = x; codriver = a.codriver }) t
    ∙ ap (λ (x : CodriverSlot). record b { codriver = x }) u
