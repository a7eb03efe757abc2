-- What the word of an entry by hand tells.
use Rattle.std.proofs.Common.{◌≡◌, ℕ, ◌+◌, ◌/◌, ◌%◌, ◌<◌, Bool, true, cond, Some, None, ◌∙◌, ap, arith}
use Rattle.std.specs.Prelude.{◌&&◌}
use Rattle.activity_codec.specs.declared.entries.Entry.{Entry}
use Rattle.activity_codec.specs.declared.words.Change.{Change}
use Rattle.activity_codec.specs.Words.{change_of, word_minute, word_slot, word_act, word_absent, word_crew}
use Rattle.activity_codec.proofs.WordLemmas.{change_of-word_of}
use Rattle.card_image.specs.card_model.Changes.{date_of}
use Rattle.card_image.specs.card_retention.Entries.{told_by}
use Rattle.activity_codec.specs.declared.entries.Manual.{Manual}
use Rattle.hand_model.specs.Manual.{manual_word, is_by_hand, tells_by_hand}

-- the change that it is the word of
abbrev change : Manual → Change
change e = record { slot = e.slot; crew_or_known = true; absent = true; act = e.act; minute = e.minute % 1440 }

pub told : (e : Manual) → change_of (manual_word e) ≡ change e
told e = change_of-word_of (change e) (omega arith)

pub minute_is : (e : Manual) → word_minute (manual_word e) ≡ e.minute % 1440
minute_is e = ap (λ (c : Change). c.minute) (told e)

pub minute_below : (e : Manual) → word_minute (manual_word e) < 1440
minute_below e = omega (arith, minute_is e)

pub absent_is : (e : Manual) → word_absent (manual_word e) ≡ true
absent_is e = ap (λ (c : Change). c.absent) (told e)

pub by_hand_is : (e : Manual) → is_by_hand (manual_word e) ≡ true
by_hand_is e = ap (λ (b : Bool). b && word_crew (manual_word e)) (absent_is e) ∙ ap (λ (c : Change). c.crew_or_known) (told e)

pub tells_it : (e : Manual) → tells_by_hand (date_of e.minute) (manual_word e) ≡ e
tells_it e =
    ap (λ (c : Change). let m : Manual = record { minute = date_of e.minute / 60 + c.minute; slot = c.slot; act = c.act } in m) (told e)
    ∙ ap (λ (n : ℕ). let m : Manual = record { minute = n; slot = e.slot; act = e.act } in m) (omega arith)

pub no_entry : (e : Manual) (m : ℕ) → told_by m (Some (manual_word e)) ≡ None
no_entry e m =
    ap (λ (b : Bool). cond b None (Some (let x : Entry = record { minute = m; slot = word_slot (manual_word e); crew = word_crew (manual_word e); act = word_act (manual_word e) } in x))) (absent_is e)
