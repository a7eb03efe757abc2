use Rattle.std.proofs.Common.{List, ◌⊎◌, subst}
use Rattle.card_by_hand.specs.activity_codec.declared.entries.Entry.{Entry}
use Rattle.card_by_hand.specs.card_session.Overwriting.{BeginsBehind}
use Rattle.card_string.specs.Carried.{IsFresh}
use Rattle.card_string.specs.Since.{counted_since, all_since}
use Rattle.card_string.proofs.Since.{may_come}
use Rattle.card_string.proofs.laws.an_entry_may_come.Goals as goal

pub returns : goal.returns
returns c = λ app image h more next x sits e le.
    subst (λ (l : List Entry). BeginsBehind app e x ⊎ IsFresh app (counted_since image sits.written) (all_since image l) x) sits.has_all (may_come app image sits.written next x sits.goes e le)
