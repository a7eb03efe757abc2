use Rattle.std.proofs.Common.{arith, length-drop}
use Rattle.message_model.specs.Messages.{word_bytes}
use Rattle.unit_marks.proofs.Fronts.{moved, at_front, day_fronts}
use Rattle.unit_marks.proofs.entries.add_places.Goals as goal

pub behind-insertions-requires : goal.behind-insertions-requires
behind-insertions-requires c =
    let fronts = day_fronts c.requires.0 c.args.message.now c.requires.1 in
    omega (arith, (at_front 2 129 c.requires.0.insertions _ fronts.insertions).end, length-drop 9 c.args.message.now)

pub behind_many-words-requires-clause-entries : goal.behind_many-words-requires-clause-entries
behind_many-words-requires-clause-entries c =
    let fronts = day_fronts c.requires.0 c.args.message.now c.requires.1 in
    (c.requires.0.insertions, moved _ _ c.behind-insertions.ensures fronts.insertions)

pub behind_many-places-requires-clause-entries : goal.behind_many-places-requires-clause-entries
behind_many-places-requires-clause-entries c =
    let m = c.requires.0 in
    let fronts = day_fronts c.requires.0 c.args.message.now c.requires.1 in
    (word_bytes m.words, moved _ _ (c.behind_many-words.ensures m.insertions (moved _ _ c.behind-insertions.ensures fronts.insertions)) fronts.words)

pub add_entries-requires-clause-entries : goal.add_entries-requires-clause-entries
add_entries-requires-clause-entries c =
    let m = c.requires.0 in
    let fronts = day_fronts c.requires.0 c.args.message.now c.requires.1 in
    let words = c.behind_many-words.ensures m.insertions (moved _ _ c.behind-insertions.ensures fronts.insertions) in
    (m.places, moved _ _ (c.behind_many-places.ensures (word_bytes m.words) (moved _ _ words fronts.words)) fronts.places)

pub returns : goal.returns
returns c = λ m begins.
    let fronts = day_fronts m c.args.message.now begins in
    let words = c.behind_many-words.ensures m.insertions (moved _ _ c.behind-insertions.ensures fronts.insertions) in
    c.in_ok-add_entries.ensures m.places (moved _ _ (c.behind_many-places.ensures (word_bytes m.words) (moved _ _ words fronts.words)) fronts.places)
