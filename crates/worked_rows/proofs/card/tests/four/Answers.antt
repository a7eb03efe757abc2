use Rattle.std.proofs.Common.{◌≡◌, ℕ, ◌/◌, ◌<◌, [], ◌∷◌, sym, subst, arith}
use Rattle.std.proofs.lemmas.List.Elements.{All-from_recursion}
use Rattle.activity_codec.specs.declared.entries.Entry.{Entry}
use Rattle.card_session.specs.Inserting.{AreOwed}
use Rattle.worked_rows.proofs.card.tests.four.Goals as goal

-- four entries of the day, one after the other
owed : (now : ℕ) (a b c d : Entry) → a.minute ≡ 1121761 → b.minute ≡ 1121762 → c.minute ≡ 1121763 → d.minute ≡ 1121764 → 1121764 < now / 60 → AreOwed now (a ∷ b ∷ c ∷ d ∷ [])
owed now a b c d first second third last late = (
  (omega (arith, first), (omega (arith, first, second), (omega (arith, second, third), (omega (arith, third, last), tt)))),
  All-from_recursion (λ e. e.minute < now / 60) (a ∷ b ∷ c ∷ d ∷ []) (omega (arith, first, late), (omega (arith, second, late), (omega (arith, third, late), (omega (arith, last, late), tt)))),
)

pub returns : goal.returns
returns c = λ now late.
    subst (AreOwed now) (sym c.from.ensures.0)
    (owed now c.owed_at-first.result c.owed_at-second.result c.owed_at-third.result c.owed_at-last.result c.owed_at-first.ensures c.owed_at-second.ensures c.owed_at-third.ensures c.owed_at-last.ensures late)
