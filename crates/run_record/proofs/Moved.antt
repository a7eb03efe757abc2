-- What tears at a moment leave of what begins and moves there; and who sits in a slot is not one that leaves it.
use Rattle.std.proofs.Common.{◌≡◌, ℕ, zero, suc, Bool, true, false, cond, Option, Some, None, List, [], ◌∷◌, ◌++◌, map, refl, ap, sym, ◌∙◌, append-nil, append_assoc}
use Rattle.std.specs.Prelude.{option_map, slice_get, flat_map}
use Rattle.std.specs.List.{list_any}
use Rattle.minute_rules.specs.activity_codec.declared.values.Slot.{Slot}
use Rattle.minute_rules.specs.activity_codec.declared.values.Slot.TheVariants.{Driver, CoDriver}
use Rattle.run_devices.specs.trace_model.declared.Action.{Action}
use Rattle.run_devices.specs.trace_model.declared.Action.TheVariants.{Select, Insert, Withdraw, Tear as Pull, Place, Manual}
use Rattle.run_devices.specs.trace_model.Trace.{TraceSecond}
use Rattle.run_devices.specs.log_model.declared.lines.Break.{Break}
use Rattle.run_devices.specs.log_model.declared.lines.SlotFault.{SlotFault}
use Rattle.run_devices.specs.log_model.declared.lines.Verdict.{Verdict}
use Rattle.run_devices.specs.log_model.Log.{RunLog, Phase, In, Keeping, is_torn_in, found_in, is_accepting}
use Rattle.run_devices.specs.log_model.Slots.{Slots, Sitting, in_slot, refusal}
use Rattle.run_devices.specs.log_model.Course.{Course, Visit, Before, Moved, visits, with_slot, leaves, slot_told, both_told, moved_by, carried_out, answered}
use Rattle.run_devices.specs.run_course.Moments.{and_break}
use Rattle.run_devices.proofs.run_course.Lookups.{break-more}
use Rattle.run_devices.specs.run_course.Reached.{moved_with, course_with, begun_at, moved_at, course_at, IsUpTo}
use Rattle.run_devices.proofs.run_course.Reached.{tear-up_to}
use Rattle.run_devices.proofs.run_course.Lines.{tear-begun}
use Rattle.run_record.specs.Taking.{AreTearsAt}

-- A SLOT THAT IS EMPTY is so still, whatever is told of a moment
none-by : (slot : Slot) (t acc : Bool) (x y z : Course) → in_slot x.slots slot ≡ None → in_slot y.slots slot ≡ None → in_slot z.slots slot ≡ None → in_slot (cond t x (cond acc y z)).slots slot ≡ None
none-by slot true acc x y z hx hy hz = hx
none-by slot false true x y z hx hy hz = hy
none-by slot false false x y z hx hy hz = hz

torn-none : (slots : Slots) (at slot : Slot) → in_slot slots slot ≡ None → in_slot (with_slot slots at None) slot ≡ None
torn-none slots Driver Driver h = refl
torn-none slots CoDriver CoDriver h = refl
torn-none slots Driver CoDriver h = h
torn-none slots CoDriver Driver h = h

abbrev accepted_in : ℕ → Slots → Slot → Slots
accepted_in u slots at = with_slot slots at (option_map {T = Sitting} (λ x. record x { accepted = Some u }) (in_slot slots at))

accepted-none : (u : ℕ) (slots : Slots) (at slot : Slot) → in_slot slots slot ≡ None → in_slot (accepted_in u slots at) slot ≡ None
accepted-none u slots Driver Driver h = ap (option_map {T = Sitting} (λ x. record x { accepted = Some u })) h
accepted-none u slots CoDriver CoDriver h = ap (option_map {T = Sitting} (λ x. record x { accepted = Some u })) h
accepted-none u slots Driver CoDriver h = h
accepted-none u slots CoDriver Driver h = h

abbrev judged : Phase → Slot → Course → List Verdict → Course
judged p slot c verdicts = record c { found = c.found ++ flat_map (λ (visit : Visit). map (λ (v : Verdict). (visit, v)) verdicts) (visits p slot c.slots) }

none-told : (log : RunLog) (u : ℕ) (p : Phase) (moved : Moved) (at slot : Slot) (c : Course) → in_slot c.slots slot ≡ None → in_slot (slot_told log u p moved at c).slots slot ≡ None
none-told log u p moved at slot c h =
    let vs : List Verdict = cond (moved.enters at) (found_in log u p at) [] in
    none-by slot (is_torn_in log u p at) (list_any is_accepting vs)
    (record (leaves at (judged p at c vs)) { torn = c.torn ++ (moved.leaving at ++ visits p at c.slots) }) (record (judged p at c vs) { slots = accepted_in u c.slots at }) (judged p at c vs)
    (torn-none c.slots at slot h) (accepted-none u c.slots at slot h) h

none-both : (log : RunLog) (u : ℕ) (p : Phase) (moved : Moved) (slot : Slot) (c : Course) → in_slot c.slots slot ≡ None → in_slot (both_told log u p moved c).slots slot ≡ None
none-both log u p moved slot c h = none-told log u p moved CoDriver slot (slot_told log u p moved Driver c) (none-told log u p moved Driver slot c h)

-- so who sits there does not leave
never : {T : Type 0} (o : Option Sitting) (x : Sitting) → o ≡ Some x → o ≡ None → T
never {T} o x some none = let clash : Some x ≡ None = sym some ∙ none in absurd (cc)

by-act : (log : RunLog) (u n : ℕ) (p : Phase) (a : Action) (r : Option SlotFault) (c : Course) (slot : Slot) (x : Sitting) → in_slot (both_told log u p (moved_by n r a c.slots) (answered n r a c)).slots slot ≡ Some x → (moved_by n r a c.slots).leaving slot ≡ []
by-act log u n p a (Some r) c slot x is = refl
by-act log u n p (Select at pick) None c slot x is = refl
by-act log u n p (Insert at card) None c slot x is = refl
by-act log u n p (Pull at) None c slot x is = refl
by-act log u n p (Place at ending country region) None c slot x is = refl
by-act log u n p (Manual at pick minute) None c slot x is = refl
by-act log u n p (Withdraw Driver) None c CoDriver x is = refl
by-act log u n p (Withdraw CoDriver) None c Driver x is = refl
by-act log u n p (Withdraw Driver) None c Driver x is =
    never (in_slot (both_told log u p (moved_by n None (Withdraw Driver) c.slots) (carried_out n (Withdraw Driver) c)).slots Driver) x is
    (none-both log u p (moved_by n None (Withdraw Driver) c.slots) Driver (carried_out n (Withdraw Driver) c) refl)
by-act log u n p (Withdraw CoDriver) None c CoDriver x is =
    never (in_slot (both_told log u p (moved_by n None (Withdraw CoDriver) c.slots) (carried_out n (Withdraw CoDriver) c)).slots CoDriver) x is
    (none-both log u p (moved_by n None (Withdraw CoDriver) c.slots) CoDriver (carried_out n (Withdraw CoDriver) c) refl)

by-action : (log : RunLog) (u n : ℕ) (p : Phase) (o : Option Action) (speed : ℕ) (c : Course) (slot : Slot) (x : Sitting) → in_slot (both_told log u p (moved_with n o speed c) (course_with n o speed c)).slots slot ≡ Some x → (moved_with n o speed c).leaving slot ≡ []
by-action log u n p None speed c slot x is = refl
by-action log u n p (Some a) speed c slot x is = by-act log u n p a (refusal c.slots speed a) c slot x is

pub not-leaving : (log : RunLog) (before : Before) (s : TraceSecond) (at : Phase) (slot : Slot) (x : Sitting) → in_slot (course_at log before s at).slots slot ≡ Some x → (moved_at log before s at).leaving slot ≡ []
not-leaving log before s (In zero) slot x is = refl
not-leaving log before s (In (suc n)) slot x is = by-action log s.number n (In (suc n)) (slice_get s.actions n) s.speed _ slot x is
not-leaving log before s Keeping slot x is = refl

-- TEARS at a moment leave what begins and moves there
pub tears-begun : (before : Before) (s : TraceSecond) (at : Phase) (more : List Break) (log later : RunLog) → later ≡ record log { breaks = log.breaks ++ more } → IsUpTo log s.number at → AreTearsAt s at more →
    (begun_at later before s at ≡ begun_at log before s at) × (moved_at later before s at ≡ moved_at log before s at)
tears-begun before s at [] log later is up h =
    let same : later ≡ log = is ∙ ap (λ (bs : List Break). record log { breaks = bs }) (append-nil log.breaks) in
    (ap (λ (l : RunLog). begun_at l before s at) same, ap (λ (l : RunLog). moved_at l before s at) same)
tears-begun before s at (b ∷ more) log later is up h =
    let one = tear-begun (and_break log b) log before s at h.0.0 h.0.1 b h.0.2 up refl in
    let rest = tears-begun before s at more (and_break log b) later (is ∙ ap (λ (bs : List Break). record log { breaks = bs }) (sym (append_assoc log.breaks (b ∷ []) more))) (tear-up_to log s at h.0.0 h.0.1 b h.0.2 up) h.1 in
    (rest.0 ∙ one.0, rest.1 ∙ one.1)

-- and what was found
pub tears-found : (u : ℕ) (at : Phase) (slot : Slot) (more : List Break) (log later : RunLog) → later ≡ record log { breaks = log.breaks ++ more } → found_in later u at slot ≡ found_in log u at slot
tears-found u at slot [] log later is = ap (λ (l : RunLog). found_in l u at slot) (is ∙ ap (λ (bs : List Break). record log { breaks = bs }) (append-nil log.breaks))
tears-found u at slot (b ∷ more) log later is =
    tears-found u at slot more (and_break log b) later (is ∙ ap (λ (bs : List Break). record log { breaks = bs }) (sym (append_assoc log.breaks (b ∷ []) more)))
    ∙ (break-more log b u).found at slot
