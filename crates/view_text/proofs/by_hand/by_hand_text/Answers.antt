use Rattle.std.proofs.Common.{◌<◌, ℕ, take, get_or, length, arith}
use Rattle.std.proofs.lemmas.List.{take_more}
use Rattle.activity_codec.specs.declared.values.Activity.TheVariants.{Rest}
use Rattle.activity_codec.specs.declared.values.Slot.TheVariants.{Driver}
use Rattle.activity_codec.specs.declared.entries.Manual.{Manual}
use Rattle.tacho_types.specs.declared.calendar.TheConstants.{DAYS}
use Rattle.view_text.proofs.Hands.{hands-more, hand-at}
use Rattle.view_text.proofs.by_hand.by_hand_text.Goals as goal

-- what stands past the end of a list
abbrev none : Manual
none = record { minute = 0; slot = Driver; act = Rest }

pub write_entry-requires : goal.write_entry-requires
write_entry-requires c =
    let lt : c.loop-entry.entry-index < length c.args.entries.now = omega arith in
    hand-at DAYS c.args.entries.now c.loop-entry.entry-index none lt c.requires

pub loop-entry-preserved : goal.loop-entry-preserved
loop-entry-preserved c =
    let es = c.args.entries.now in
    let i : ℕ = c.loop-entry.entry-index in
    let lt : i < length es = omega arith in
    rw (take_more es i none lt) (hands-more (take i es) (get_or es i none) c.loop-entry.text.items _ c.loop-entry.invariant c.in_ok-write_entry.ensures)
