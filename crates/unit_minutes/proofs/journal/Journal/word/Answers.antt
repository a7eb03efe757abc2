use Rattle.std.proofs.Common.{◌≡◌, ℕ, ◌+◌, ◌*◌, ◌∙◌, ap, sym, subst, arith, Some}
use Rattle.gated_ring.specs.Ring.{number_at}
use Rattle.unit_memory.proofs.Told.{one_told}
use Rattle.unit_minutes.specs.Image.{IsNotes}
use Rattle.unit_minutes.proofs.Shown.{shown, word_at, two_bytes}
use Rattle.unit_model.specs.declared.layout.TheConstants.{DAY_WORDS}
use Rattle.unit_minutes.proofs.journal.Journal.word.Goals as goal

pub returns-clause-recorded : goal.returns-clause-recorded
returns-clause-recorded g c =
    let j = c.args.self.now in
    let d = c.args.head.now in
    let k = c.args.index in
    let notes : IsNotes j = subst IsNotes c.self.view_is c.self.invariant.notes in
    one_told (g.M.Medium.state c.args.unit.now).image _ c.in_ok-read_at.ensures.bytes (λ x bytes right n i it.
    let word_is : c.from_be_bytes.result ≡ number_at x (d.place + DAY_WORDS.place + 2 * k) 2 = two_bytes x (d.place + DAY_WORDS.place + 2 * k) c.from_be_bytes.result c.read_at.new.out bytes c.from_be_bytes.ensures in
    word_at j x n i k (shown j notes x right) it.nth (omega (arith, c.requires.index, it.day.words_are))
    ∙ ap Some (ap (λ (p : ℕ). number_at x (p + DAY_WORDS.place + 2 * k) 2) (sym it.day.place) ∙ sym word_is))
