-- A keeping is recorded, as far as it came.
use Rattle.std.proofs.Common.{◌≡◌, inl, inr, ⊎_elim, ℕ, ◌+◌, ◌-◌, true, false, Option, Some, None, is_some, List, [], ◌++◌, length, map, refl, ap, sym, subst, ◌∙◌, arith, append-nil}
use Rattle.std.proofs.lemmas.Bool.{cases_lt}
use Rattle.std.proofs.lemmas.List.{length-map}
use Rattle.trace_model.specs.declared.Card.TheVariants.{A, B}
use Rattle.tach_media.specs.Medium.{State, HasBroken}
use Rattle.unit_model.specs.minute_model.declared.Minute.{Minute}
use Rattle.log_model.specs.Causes.{RoseBy}
use Rattle.device_calls.specs.safety_model.Safe.{Devices, breakdowns_of}
use Rattle.run_crew.specs.declared.cards.Accepted.{Accepted}
use Rattle.run_minutes.specs.Keeping.{tears_of}
use Rattle.run_minutes.specs.Minutes.{KeepingState, Done, Whole, Short, told_by}
use Rattle.run_minutes.specs.Books.{AreBooked}
use Rattle.run_minutes.specs.Decided.{carried_by}
use Rattle.run_record.specs.Within.{RecordAtFailure}
use Rattle.run_acts.specs.Rounds.{told_values, moment_of}
use Rattle.run_acts.specs.RoundLaws.{GoOn, carried_at, LeaveStill, AreGone, HaveBrokenOff, TheKeepingIsRecorded, TheNoteFails}
use Rattle.run_minutes.specs.Later.{RestBy}
use Rattle.run_acts.proofs.RoundWhole.{minutes-kept_so, leave-still}
use Rattle.run_acts.proofs.RoundCut.{keeping-fails, cut-behind}
use Rattle.run_acts.proofs.RoundBroken.{cards-broken, cards-broken_last}

-- a session that is lost was torn out once
rose-once : (x y : State) → HasBroken x y 1 → RoseBy 1 x.breakdowns y.breakdowns
rose-once x y h = ⊎_elim (λ less. inr (let broke = h.breakdowns in omega (arith, broke, less))) (λ all. inl all) (cases_lt y.breakdowns (x.breakdowns + 1))

lost-one : (old new : Option Accepted) (x y : State) → HasBroken x y (tears_of old - tears_of new) → is_some old ≡ true → new ≡ None → RoseBy 1 x.breakdowns y.breakdowns
lost-one None new x y h some none = absurd (cc)
lost-one (Some a) None x y h some none = rose-once x y h
lost-one (Some a) (Some b) x y h some none = absurd (cc)

pub gone-cards : (t u : KeepingState) (d e : Devices) → HaveBrokenOff t u d e → AreGone t.keeper.cabin.cards u.keeper.cabin.cards (breakdowns_of d) (breakdowns_of e)
gone-cards t u d e h A some none = lost-one t.keeper.cabin.cards.a.accepted u.keeper.cabin.cards.a.accepted d.card_a e.card_a h.a some none
gone-cards t u d e h B some none = lost-one t.keeper.cabin.cards.b.accepted u.keeper.cabin.cards.b.accepted d.card_b e.card_b h.b some none

pub keeping-recorded : (d e : Devices) → TheKeepingIsRecorded d e
keeping-recorded d e o done s q all t u v w k false (Whole xs) is broken rose ends =
    let at : KeepingState = told_by t.keeper (moment_of s q) xs t in
    let gone : AreGone t.keeper.cabin.cards at.keeper.cabin.cards (breakdowns_of d) (breakdowns_of e) =
    subst (λ (y : KeepingState). AreGone t.keeper.cabin.cards y.keeper.cabin.cards (breakdowns_of d) (breakdowns_of e)) is.2 (gone-cards t u d e broken) in
    let rests : RestBy t.keeper.cabin.cards at.keeper.cabin.cards d e = subst (λ (y : KeepingState). RestBy t.keeper.cabin.cards y.keeper.cabin.cards d e) is.2 broken.rests in
    let split : all ≡ map (λ (x : Done). x.minute) xs ++ [] = is.0 ∙ sym (append-nil (map (λ (x : Done). x.minute) xs)) in
    let broke = cards-broken t.keeper (moment_of s q) xs t (breakdowns_of d) (breakdowns_of e) is.1 gone in
    let many : length xs ≡ length all = sym (length-map xs (λ (x : Done). x.minute)) ∙ ap (λ (ms : List Minute). length ms) (sym is.0) in
    subst (λ (y : KeepingState). GoOn o done s q [] y v e w.b (w.from + length all) × LeaveStill o done s q all t y v d w) (sym is.2) (
      subst (λ (n : ℕ). GoOn o done s q [] at v e w.b (w.from + n)) many
          (minutes-kept_so o done s q all t v d e w k xs [] split is.1 broke rests
          (subst (λ (y : KeepingState). AreBooked o.found (carried_by t.keeper xs (carried_at o done s q all t v d w)) y.keeper.cabin.cards y.marks.items e) is.2 ends.0) ends.1),
      leave-still o done s q all t v d e w k xs [] split is.1 broke,
    )
keeping-recorded d e o done s q all t u v w k false (Short xs m round) is broken rose ends = absurd is
keeping-recorded d e o done s q all t u v w k true (Whole xs) is broken rose ends = absurd is
keeping-recorded d e o done s q all t u v w k true (Short xs m None) is broken rose ends =
    let at : KeepingState = told_by t.keeper (moment_of s q) xs t in
    let gone : AreGone t.keeper.cabin.cards at.keeper.cabin.cards (breakdowns_of d) (breakdowns_of e) =
    subst (λ (y : KeepingState). AreGone t.keeper.cabin.cards y.keeper.cabin.cards (breakdowns_of d) (breakdowns_of e)) is.2 (gone-cards t u d e broken) in
    keeping-fails d e o done s q all t u v w k xs m is.0.0 None is.0.1 is.1 (cards-broken t.keeper (moment_of s q) xs t (breakdowns_of d) (breakdowns_of e) is.1 gone) is.2 tt (rose refl) broken.rests ends
keeping-recorded d e o done s q all t u v w k true (Short xs m (Some round)) is broken rose ends =
    let both = cards-broken_last t.keeper (moment_of s q) xs m round t (breakdowns_of d) (breakdowns_of e) is.1 is.2.0
    (subst (λ (y : KeepingState). AreGone t.keeper.cabin.cards y.keeper.cabin.cards (breakdowns_of d) (breakdowns_of e)) is.2.1 (gone-cards t u d e broken)) in
    keeping-fails d e o done s q all t u v w k xs m is.0.0 (Some round) is.0.1 is.1 both.0 is.2 both.1 (rose refl) broken.rests ends

-- a note behind all of them fails
pub note-fails : (d e : Devices) → TheNoteFails d e
note-fails d e o done s q all t u v w k low xs is broken rose powerless travels =
    let at : KeepingState = told_by t.keeper (moment_of s q) xs t in
    let gone : AreGone t.keeper.cabin.cards at.keeper.cabin.cards (breakdowns_of d) (breakdowns_of e) =
    subst (λ (y : KeepingState). AreGone t.keeper.cabin.cards y.keeper.cabin.cards (breakdowns_of d) (breakdowns_of e)) is.2 (gone-cards t u d e broken) in
    subst (λ (y : KeepingState). RecordAtFailure o done s q.at q.waits q.speed (told_values y v) e) (sym is.2)
    (cut-behind o done s q all t v d e w k xs (is.0 ∙ sym (append-nil (map (λ (x : Done). x.minute) xs))) is.1 (cards-broken t.keeper (moment_of s q) xs t (breakdowns_of d) (breakdowns_of e) is.1 gone) rose low
    (subst (λ (y : KeepingState). RestBy t.keeper.cabin.cards y.keeper.cabin.cards d e) is.2 broken.rests) powerless travels)
