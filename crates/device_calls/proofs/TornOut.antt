-- A card that was accepted, or torn out, taken as one that is not accepted.
use Rattle.std.proofs.Common.{List, []}
use Rattle.activity_codec.specs.declared.entries.Entry.{Entry}
use Rattle.trace_model.specs.declared.Card.{Card}
use Rattle.tach_media.specs.Medium.{State}
use Rattle.unit_rule.specs.history_model.Book.{Book, all}
use Rattle.unit_rule.specs.device_rule.Rules.{Standing, Out}
use Rattle.unit_rule.proofs.device_rule.Pairs.{meets-out}
use Rattle.device_calls.specs.Rule.{Both, opened, AnyString, CardHolds}

pub torn-out : (r : Both) (c : Card) (b : Book) (z : Standing) (d : List Entry) (U X : State) → CardHolds r c b z [] d U X → CardHolds r c b Out [] [] U X
torn-out r c b z d U X rule = record {
  dark = record {
    meets = λ u x on there. meets-out c (opened r c).start AnyString (all b) z u x (λ full next n le is. tt) (rule.dark.meets u x on there);
    later = rule.dark.later;
    since = rule.dark.since;
  };
  cells = rule.cells;
  stands = tt;
}
