use Rattle.std.proofs.Common.{◌≡◌, ℕ, ◌/◌, ◌<◌, [], ◌∷◌, sym, subst, arith}
use Rattle.std.proofs.lemmas.List.Elements.{All-from_recursion}
use Rattle.activity_codec.specs.declared.entries.Entry.{Entry}
use Rattle.card_session.specs.Inserting.{AreOwed}
use Rattle.worked_devices.proofs.session_tests.four.Goals as goal

-- four entries of the day, one after the other
owed : (now : ℕ) (a b c d : Entry) → a.minute ≡ 21123959 → b.minute ≡ 21123960 → c.minute ≡ 21123961 → d.minute ≡ 21123963 → 21123963 < now / 60 → AreOwed now (a ∷ b ∷ c ∷ d ∷ [])
owed now a b c d first second third last late = (
  (omega (arith, first), (omega (arith, first, second), (omega (arith, second, third), (omega (arith, third, last), tt)))),
  All-from_recursion (λ e. e.minute < now / 60) (a ∷ b ∷ c ∷ d ∷ []) (omega (arith, first, late), (omega (arith, second, late), (omega (arith, third, late), (omega (arith, last, late), tt)))),
)

pub returns : goal.returns
returns c = λ now late.
    subst (AreOwed now) (sym c.from.ensures.0)
    (owed now c.work-first.result.entry c.work-second.result.entry c.work-third.result.entry c.work-last.result.entry c.work-first.ensures.minute c.work-second.ensures.minute c.work-third.ensures.minute c.work-last.ensures.minute late)
