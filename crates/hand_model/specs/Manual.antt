-- The word of an entry by hand, and the entry that a word tells (Appendix 1, ActivityChangeInfo: not inserted, known).
use Rattle.std.specs.Prelude.{ℕ, ◌+◌, ◌/◌, ◌%◌, Bool, true, ◌&&◌}
use Rattle.activity_codec.specs.Words.{word_of, word_slot, word_crew, word_absent, word_act, word_minute}
use Rattle.activity_codec.specs.declared.entries.Manual.{Manual}

-- the word of an entry by hand
abbrev pub manual_word : Manual → ℕ
manual_word e = word_of (record {
  slot = e.slot;
  crew_or_known = true;
  absent = true;
  act = e.act;
  minute = e.minute % 1440;
})

-- a word is that of an entry by hand
abbrev pub is_by_hand : ℕ → Bool
is_by_hand w = word_absent w && word_crew w

-- the entry by hand that it tells of a day with this date, in seconds
abbrev pub tells_by_hand : (date w : ℕ) → Manual
tells_by_hand date w = record { minute = date / 60 + word_minute w; slot = word_slot w; act = word_act w }
