-- Worked moments and a short run: what they come to, computed, and that the premises of the laws can be met.
use Rattle.std.proofs.Common.{◌≡◌, inl, inr, ℕ, ◌≤◌, true, false, Option, Some, None, List, [], ◌∷◌, ◌++◌, refl, ap, sym, ◌∙◌, arith}
use Rattle.std.proofs.lemmas.List.Elements.{All-nil}
use Rattle.activity_codec.specs.declared.values.Slot.TheVariants.{Driver}
use Rattle.trace_model.specs.declared.Card.{Card}
use Rattle.trace_model.specs.declared.Card.TheVariants.{A}
use Rattle.trace_model.specs.declared.Action.TheVariants.{Insert}
use Rattle.trace_model.specs.Trace.{TraceSecond, driven, dark}
use Rattle.minute_model.specs.declared.Rule.TheVariants.{Original}
use Rattle.minute_model.specs.declared.Minute.{Minute}
use Rattle.log_model.specs.declared.lines.Break.TheVariants.{Cut}
use Rattle.log_model.specs.declared.lines.Verdict.TheVariants.{Accepted}
use Rattle.log_model.specs.Log.{RunLog, cut_in, is_torn_in, found_in}
use Rattle.log_model.specs.Slots.{Slots}
use Rattle.log_model.specs.Course.{ToldSecond, Before, Went, went}
use Rattle.event_model.specs.Events.{course_by}
use Rattle.history_model.specs.Minutes.{HistoryMinute, card_history}
use Rattle.history_model.specs.Presence.{Start, newest_minute, present_in as present_by_history}
use Rattle.history_model.specs.History.{decided_of}
use Rattle.history_model.specs.Book.{not_begun, found}
use Rattle.history_model.proofs.Deciding.{short-none}
use Rattle.card_slots.specs.Calls.{present_in}
use Rattle.card_slots.specs.Kept.{nothing_yet, put_in, taken, minute_ended}
use Rattle.run_unit_course.specs.Followed.{Lit, Due, Lost}
use Rattle.run_unit_course.proofs.Alike.{decided-empty}
use Rattle.run_course.specs.Followed.{Progress, BookFollowsRun}
use Rattle.run_course.specs.Seconds.{next_told}
use Rattle.run_course.specs.Presence.{present_at, SlotsTell}
use Rattle.run_course.specs.Quiet.{quiet_on}
use Rattle.run_course.proofs.Presence.{nobody-sits, put-in}
use Rattle.run_course.proofs.Steps.{begins_run, power_finds, goes_on, breaks_off, off_cuts}
use Rattle.run_course.proofs.Quiet.{quiet-go-on}
use Rattle.run_course.proofs.Dark.{lost-are-told}

-- cards that bring nothing
abbrev fresh_cards : Start
fresh_cards = record { card_a = record { entries = []; owed = []; mark = 0; word = 0 }; card_b = record { entries = []; owed = []; mark = 0; word = 0 } }

-- second 600, in which card a is put into the driver slot
abbrev inserting : TraceSecond
inserting = record { number = 600; has_power = true; speed = 0; actions = Insert Driver A ∷ [] }

-- it is accepted
abbrev accepting : RunLog
accepting = record { breaks = []; refused = []; finds = record { second = 600; slot = Driver; verdict = Accepted 0; begun = 1 } ∷ [] }

abbrev behind : Before
behind = record { running = true; gone = false; given = true; slots = record { driver = None; codriver = None } }

abbrev sitting : Option ℕ → Slots
sitting accepted = record { driver = Some (record { card = A; accepted = accepted }); codriver = None }

-- before the action nobody sits, behind it the card does, accepted in this second
before_it : (course_by accepting behind inserting 0).slots ≡ record { driver = None; codriver = None }
unfolding cut_in is_torn_in found_in
before_it = refl

behind_it : (course_by accepting behind inserting 1).slots ≡ sitting (Some 600)
unfolding cut_in is_torn_in found_in
behind_it = refl

-- a last second of minute 11 with these leavings in it
abbrev last_of : List Card → ToldSecond
last_of left = record {
  second = record { number = 719; speed = 0; picks = [] };
  given = true;
  lit = true;
  starts = false;
  cut = false;
  course = record {
    picks = [];
    left = left;
    pulled = [];
    torn = [];
    entered = [];
    found = [];
    refused = [];
    settled = false;
    slots = sitting (Some 600);
  };
}

-- the card is present in it, by the history and by the slots
present_row : present_at fresh_cards (last_of [] ∷ []) [] 11 ≡ record { driver = Some A; codriver = None }
unfolding present_by_history newest_minute card_history
present_row = refl

slots_row : present_in (minute_ended 11 (put_in Driver A (Some 9) nothing_yet)).past 11 ≡ Some (record { driver = Some A; codriver = None })
slots_row = refl

-- not where it left in it
left_row : present_at fresh_cards (last_of (A ∷ []) ∷ []) [] 11 ≡ record { driver = None; codriver = None }
unfolding present_by_history newest_minute card_history
left_row = refl

slots_left_row : present_in (minute_ended 11 (put_in Driver A (Some 9) (taken Driver 660 (put_in Driver A (Some 9) nothing_yet)))).past 11 ≡ Some (record { driver = None; codriver = None })
slots_left_row = refl

-- and the history knows nobody before the minute's last second has gone: so a minute ends behind that
early_row : present_at fresh_cards [] [] 11 ≡ record { driver = None; codriver = None }
unfolding present_by_history newest_minute card_history
early_row = refl

-- A SHORT RUN: from second 600 on, minute 9 kept last. Power comes, the card is put in, an `off` line of a minute cuts it, power comes again.
started : BookFollowsRun Original fresh_cards 600 9 [] (record { log = record { breaks = []; refused = []; finds = [] }; unfound = 0; next = 600; begun = 0; supply = Due; book = not_begun; waiting = [] })
started = begins_run Original fresh_cards 600 9 (omega arith)

abbrev lit_at : Progress
lit_at = record { log = record { breaks = []; refused = []; finds = [] }; unfound = 0; next = 600; begun = 0; supply = Lit []; book = found 9 not_begun; waiting = [] }

powered : BookFollowsRun Original fresh_cards 600 9 [] lit_at
powered = power_finds Original fresh_cards 600 9 [] (record { log = record { breaks = []; refused = []; finds = [] }; unfound = 0; next = 600; begun = 0; supply = Due; book = not_begun; waiting = [] }) started tt 9 (inl refl) (All-nil (λ (i : HistoryMinute). i.minute ≤ 9))

uncut : cut_in accepting 600 ≡ None
unfolding cut_in
uncut = refl

abbrev entered : Progress
entered = record { log = accepting; unfound = 0; next = 601; begun = 1; supply = Lit (next_told accepting [] inserting ∷ []); book = found 9 not_begun; waiting = [] }

-- its one second decides nothing
nothing : (t : ToldSecond) → decided_of Original ([] ++ t ∷ []) ≡ decided_of Original [] ++ []
nothing t = short-none Original t ∙ sym (ap (λ (ds : List Minute). ds ++ []) (decided-empty Original))

second_on : BookFollowsRun Original fresh_cards 600 9 (inserting ∷ []) entered
second_on =
    goes_on Original fresh_cards 600 9 [] lit_at powered [] refl refl inserting accepting
    (record { number = refl; given = refl; breaks = ([], refl, tt); finds = (record { second = 600; slot = Driver; verdict = Accepted 0; begun = 1 } ∷ [], refl, (refl, tt)) })
    uncut [] ([], nothing (next_told accepting [] inserting), refl)

cut_off_line : BookFollowsRun Original fresh_cards 600 9 ((inserting ∷ []) ++ dark 60 601) (record {
  log = record { breaks = Cut 600 0 false 1 ∷ []; refused = []; finds = accepting.finds };
  unfound = 0;
  next = 661;
  begun = 0;
  supply = Due;
  book = found 9 not_begun;
  waiting = [];
})
cut_off_line = off_cuts Original fresh_cards 600 9 (inserting ∷ []) entered second_on (next_told accepting [] inserting) [] refl refl 59

found_again : BookFollowsRun Original fresh_cards 600 9 ((inserting ∷ []) ++ dark 60 601) (record {
  log = record { breaks = Cut 600 9 false 1 ∷ []; refused = []; finds = accepting.finds };
  unfound = 1;
  next = 661;
  begun = 0;
  supply = Lit [];
  book = found 9 (found 9 not_begun);
  waiting = [];
})
found_again =
    power_finds Original fresh_cards 600 9 ((inserting ∷ []) ++ dark 60 601) (record {
      log = record { breaks = Cut 600 0 false 1 ∷ []; refused = []; finds = accepting.finds };
      unfound = 0;
      next = 661;
      begun = 0;
      supply = Due;
      book = found 9 not_begun;
      waiting = [];
    }) cut_off_line tt 9 (inl refl) (All-nil (λ (i : HistoryMinute). i.minute ≤ 9))

-- Or half a minute goes on without actions,
quiet : BookFollowsRun Original fresh_cards 600 9 ((inserting ∷ []) ++ driven 30 601 0 []) (quiet_on 30 0 (next_told accepting [] inserting ∷ []) (went accepting (inserting ∷ [])).before.slots entered)
quiet = (quiet-go-on Original fresh_cards 600 9 (inserting ∷ []) entered second_on (next_told accepting [] inserting) [] refl refl 30 0 (omega arith)).1

-- or a failed call takes the power, up to the minute's end.
abbrev failing : RunLog
failing = record { breaks = Cut 600 0 true 1 ∷ []; refused = []; finds = accepting.finds }

fails : cut_in failing 600 ≡ Some 1
unfolding cut_in
fails = refl

abbrev lost_at : Progress
lost_at = record { log = failing; unfound = 0; next = 601; begun = 1; supply = Lost; book = found 9 not_begun; waiting = [] }

second_off : BookFollowsRun Original fresh_cards 600 9 (inserting ∷ []) lost_at
second_off =
    breaks_off Original fresh_cards 600 9 [] lit_at powered [] refl refl inserting failing
    (record { number = refl; given = refl; breaks = (Cut 600 0 true 1 ∷ [], refl, (refl, tt)); finds = (record { second = 600; slot = Driver; verdict = Accepted 0; begun = 1 } ∷ [], refl, (refl, tt)) })
    1 fails [] [] [] None ([], nothing (next_told failing [] inserting), refl) refl

dark_row : (went failing ((inserting ∷ []) ++ driven 59 601 0 [])).before ≡ (went failing (inserting ∷ [])).before
dark_row = ap (λ (w : Went). w.before) (lost-are-told Original fresh_cards 600 9 (inserting ∷ []) lost_at second_off refl 59 0 [] (omega arith) (omega arith))

-- WHAT THE SLOTS TELL of that second
newest_row : newest_minute fresh_cards [] A 600 ≡ 0
unfolding newest_minute card_history
newest_row = refl

abbrev empty_now : Slots
empty_now = record { driver = None; codriver = None }

sits_down : SlotsTell fresh_cards [] [] [] 600 10 (sitting None) (put_in Driver A None nothing_yet)
sits_down = put-in fresh_cards [] [] [] 600 10 empty_now nothing_yet (nobody-sits fresh_cards [] 600 10 (omega arith)) Driver A None None (record { here = inl refl; elsewhere = refl }) tt

is_accepted : SlotsTell fresh_cards [] [] [] 600 10 (sitting (Some 600)) (put_in Driver A (Some 9) (put_in Driver A None nothing_yet))
is_accepted = put-in fresh_cards [] [] [] 600 10 (sitting None) (put_in Driver A None nothing_yet) sits_down Driver A (Some 9) (Some 600) (record { here = inr refl; elsewhere = refl })
    (omega arith, λ m from. let n = newest_row in (λ some. (λ lt. omega (arith, n, lt), λ lt. omega (arith, from)), λ none. absurd (omega (arith, from, none))))
