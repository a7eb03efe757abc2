use Rattle.std.proofs.Common.{List, ℕ, IfSome, subst}
use Rattle.tach_media.proofs.Runs.{weaken, goes_on, at_image, on_ok, ok_gives}
use Rattle.gated_ring.specs.Change.{IsSet, OrUnwritten}
use Rattle.message_model.specs.Records.{insertion_ring}
use Rattle.unit_notes.proofs.Withdrawing.{withdrawing_first, withdrawing_next, withdrawn_told}
use Rattle.unit_notes.proofs.Journals.{withdrawal_keeps, withdrawal_decodes}
use Rattle.unit_notes.proofs.memory.UnitMemoryUnitNotes.note_withdrawal.Goals as goal

-- the part of the time
abbrev SetTime : ℕ → List ℕ → List ℕ → List ℕ → Type 0
SetTime i bytes x y = IsSet insertion_ring i 102 bytes x y

pub returns-in_err-set_part-clause-moments : goal.returns-in_err-set_part-clause-moments
returns-in_err-set_part-clause-moments g c =
    weaken c.set_part.ensures.moments (λ x d was entry.
    withdrawing_first c.args.index c.args.time c.args.odometer c.requires.index x d (subst (λ (b : List ℕ). OrUnwritten (SetTime c.args.index b) x d) c.write_time.ensures.bytes entry))

pub returns-clause-moments : goal.returns-clause-moments
returns-clause-moments g c =
    let i = c.args.index in
    goes_on
    (weaken c.set_part.ensures.moments (λ x d was entry.
    withdrawing_first i c.args.time c.args.odometer c.requires.index x d (subst (λ (b : List ℕ). OrUnwritten (SetTime i b) x d) c.write_time.ensures.bytes entry)))
    c.set_part-2.ensures.moments
    (λ x y d was is entry.
    withdrawing_next i c.args.time c.args.odometer c.requires.index x y d
    (subst (λ (b : List ℕ). SetTime i b x y) c.write_time.ensures.bytes (at_image (SetTime i c.write_time.new.out x) is (at_image (λ z. IfSome (g.M.Medium.state c.set_part.new.unit).image (SetTime i c.write_time.new.out z)) was c.in_ok-set_part.ensures.set)))
    (subst (λ (b : List ℕ). OrUnwritten (IsSet insertion_ring i 106 b) y d) c.write_odometer.ensures.bytes entry))

pub returns-clause-noted : goal.returns-clause-noted
returns-clause-noted g c =
    let i = c.args.index in
    on_ok c.set_part-2.result (λ fine.
    withdrawn_told i c.args.time c.args.odometer c.requires.index (g.M.Medium.state c.args.unit.now).image (g.M.Medium.state c.set_part.new.unit).image (g.M.Medium.state c.set_part-2.new.unit).image
    c.set_part.ensures.moments.tells
    (subst (λ (b : List ℕ). IfSome (g.M.Medium.state c.args.unit.now).image (λ x. IfSome (g.M.Medium.state c.set_part.new.unit).image (SetTime i b x))) c.write_time.ensures.bytes c.in_ok-set_part.ensures.set)
    (subst (λ (b : List ℕ). IfSome (g.M.Medium.state c.set_part.new.unit).image (λ y. IfSome (g.M.Medium.state c.set_part-2.new.unit).image (IsSet insertion_ring i 106 b y))) c.write_odometer.ensures.bytes (ok_gives c.set_part-2.result c.set_part-2.ensures.set fine)))

pub returns-in_err-set_part-clause-journal : goal.returns-in_err-set_part-clause-journal
returns-in_err-set_part-clause-journal g c =
    weaken (returns-in_err-set_part-clause-moments g c) (λ x d was moment.
    record {
      keeps = withdrawal_keeps c.args.index c.args.time c.args.odometer x d c.requires.index moment;
      decodes = withdrawal_decodes c.args.index c.args.time c.args.odometer x d c.requires.index moment;
    })

pub returns-clause-journal : goal.returns-clause-journal
returns-clause-journal g c =
    weaken (returns-clause-moments g c) (λ x d was moment.
    record {
      keeps = withdrawal_keeps c.args.index c.args.time c.args.odometer x d c.requires.index moment;
      decodes = withdrawal_decodes c.args.index c.args.time c.args.odometer x d c.requires.index moment;
    })
