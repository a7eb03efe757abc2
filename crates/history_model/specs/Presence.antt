-- Which card is present in a slot in a minute (profile).
use Rattle.std.specs.Prelude.{ℕ, suc, ◌/◌, ◌%◌, max, Bool, false, not, ◌&&◌, Option, Some, None, List, ◌++◌, filter}
use Rattle.std.specs.Prelude.{nat_eq, nat_lt, if◌then◌else◌, option_map, unwrap_or}
use Rattle.std.specs.List.{list_any}
use Rattle.log_model.specs.activity_codec.declared.entries.Entry.{Entry}
use Rattle.log_model.specs.activity_codec.declared.values.Slot.{Slot}
use Rattle.log_model.specs.trace_model.declared.Card.{Card}
use Rattle.log_model.specs.trace_model.declared.Card.TheVariants.{A, B}
use Rattle.log_model.specs.minute_model.Second.{minute_of}
use Rattle.log_model.specs.minute_model.Activity.{last}
use Rattle.log_model.specs.Slots.{Sitting, same_card, in_slot}
use Rattle.log_model.specs.Course.{ToldSecond}
use Rattle.history_model.specs.Minutes.{HistoryMinute, card_history}

-- what a card brings to a run: its entries, those that the unit owes it, its end mark, and the minute of its newest
-- word where no session is open, else 0
pub record CardStart : Type 0 where
  pub entries : List Entry
  pub owed : List Entry
  pub mark : ℕ
  pub word : ℕ

-- what both cards bring
pub record Start : Type 0 where
  pub card_a : CardStart
  pub card_b : CardStart

-- what one of them brings
abbrev pub card_start : Start → Card → CardStart
card_start start A = start.card_a
card_start start B = start.card_b

-- the expected entries of a card: those at the start, those owed to it, and its part of these minutes
abbrev pub expected_entries : Start → Card → List HistoryMinute → List Entry
expected_entries start card past = (card_start start card).entries
    ++ ((card_start start card).owed ++ card_history card past)

-- the minute of the closing word behind an entry, where its day has room for one
abbrev pub closed_at : Option Entry → ℕ
closed_at None = 0
closed_at (Some e) = if nat_eq (suc e.minute % 1440) 0 then e.minute else suc e.minute

-- the newest minute of a card as its end mark trims it, whose expected entries are these
abbrev pub trimmed_by : CardStart → List Entry → ℕ
trimmed_by c entries = max c.mark (closed_at (last entries))

-- the newest minute of a card whose expected entries are these
abbrev pub newest_by : CardStart → List Entry → ℕ
newest_by c entries = max (max c.mark c.word) (closed_at (last entries))

-- The newest minute of a card that is accepted in a second, after these minutes. Words later than the end mark count
-- for good here. The card itself loses them when it is accepted again; that changes no presence, since they are not
-- later than the minute of the first acceptance, and the card left in that minute.
unfoldable pub newest_minute : Start → List HistoryMinute → Card → ℕ → ℕ
newest_minute start past card u =
    newest_by (card_start start card) (expected_entries start card (filter (λ i. nat_lt i.minute (u / 60)) past))

-- it was accepted, the minute is later than its newest one by then, and it was not withdrawn, torn out or cut off from
-- power in these seconds of the minute
abbrev pub is_present : Start → List HistoryMinute → ℕ → List ToldSecond → Card → Option ℕ → Bool
is_present start past m ts card None = false
is_present start past m ts card (Some u) =
    nat_lt (newest_minute start past card u) m && not (list_any (λ t. list_any (same_card card) t.course.left) ts)

-- the card that sits there, where it is present
abbrev pub present_sitting : Start → List HistoryMinute → ℕ → List ToldSecond → Option Sitting → Option Card
present_sitting start past m ts None = None
present_sitting start past m ts (Some sitting) =
    if is_present start past m ts sitting.card sitting.accepted then Some sitting.card else None

-- the seconds of a minute
abbrev pub in_minute : ℕ → List ToldSecond → List ToldSecond
in_minute m told = filter (λ t. nat_eq (minute_of t.second) m) told

-- the card that is present in a slot in a minute: it sits there at the minute's end
unfoldable pub present_in : Start → List ToldSecond → List HistoryMinute → ℕ → Slot → Option Card
present_in start told past m slot =
    let ts : List ToldSecond = in_minute m told in
    present_sitting start past m ts (unwrap_or
    (option_map {T = ToldSecond} (λ t. in_slot t.course.slots slot) (last ts)) None)
