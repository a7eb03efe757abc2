-- What a settling decides.
use Rattle.std.proofs.Common.{◌≡◌, ◌∙◌, ℕ, ◌/◌, ◌≤◌, List, ◌++◌, Option, refl, ap, arith}
use Rattle.trace_model.specs.declared.Card.{Card}
use Rattle.tach_media.specs.Medium.{State}
use Rattle.card_files.specs.card_layout.declared.command.CardState.{CardState}
use Rattle.unit_model.specs.minute_model.declared.Minute.{Minute}
use Rattle.unit_model.specs.minute_model.Span.{ungiven_of, settled, decided_in}
use Rattle.unit_model.proofs.minute_model.Counted.{settled-more, ungiven-settled, ungiven-most}
use Rattle.run_acts.specs.declared.run.Run.{Run}
use Rattle.run_acts.specs.Going.{end_of_seconds, RunHasPower}
use Rattle.run_acts.proofs.Due.{Decides, decides}

module _ {U A0 B0 : State} {chip_a chip_b : CardState} (leaving : Option Card) (to : ℕ) (run : Run) (g : RunHasPower leaving to run U chip_a chip_b A0 B0) where
  pub settled-ungiven : ungiven_of (settled g.span) ≡ run.next / 60
  settled-ungiven = ungiven-settled g.span g.stands.settled ∙ ap (λ (n : ℕ). n / 60) g.next

  pub settled-most : ungiven_of (settled g.span) ≤ run.next / 60
  settled-most = let is = settled-ungiven in omega (arith, is)

  pub settled-later : ungiven_of g.span ≤ ungiven_of (settled g.span)
  settled-later = let is = ungiven-settled g.span g.stands.settled in let most = ungiven-most g.span g.stands.settled in omega (arith, is, most)

  pub settled-decides : (items : List Minute) → run.next ≤ end_of_seconds → decided_in (settled g.span) ≡ decided_in g.span ++ items → Decides (ungiven_of g.span) (ungiven_of (settled g.span)) run.keeper.journal.kept items
  settled-decides items small given =
      decides g.span (settled g.span) run.keeper.journal.kept items refl g.stands.numbered g.stands.settled g.stands.numbered (settled-more g.span g.stands.settled) settled-later given g.later g.low
      (let end = g.next in omega (arith, end, small))
