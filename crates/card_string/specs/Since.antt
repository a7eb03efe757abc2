-- How a card's string stands since an image of it at the start: with its own entries, those that came since and are on
-- it, and those that it lacks (profile).
use Rattle.std.specs.Prelude.{◌≡◌, ◌⊎◌, ℕ, ◌*◌, ◌/◌, ◌<◌, ◌≤◌, max, true, false, Option, Some, None, List, [], ◌∷◌}
use Rattle.std.specs.Prelude.{◌++◌, length, nat_le, if◌then◌else◌}
use Rattle.card_by_hand.specs.activity_codec.declared.entries.Entry.{Entry}
use Rattle.card_by_hand.specs.activity_codec.declared.entries.Manual.{Manual}
use Rattle.card_by_hand.specs.activity_codec.declared.values.Activity.TheVariants.{Rest}
use Rattle.card_by_hand.specs.activity_codec.declared.values.Slot.TheVariants.{Driver}
use Rattle.tach_media.specs.card_layout.declared.files.Application.{Application}
use Rattle.card_by_hand.specs.card_model.Days.{Day}
use Rattle.card_by_hand.specs.card_retention.Expected.{WordDay, Counted, is_newest}
use Rattle.card_by_hand.specs.card_retention.Entries.{last_entry, newest_word}
use Rattle.card_by_hand.specs.card_retention.Shown.{Bound, InDays, AllIn}
use Rattle.card_by_hand.specs.card_image.Fields.{card_days, end_mark, session_time}
use Rattle.card_by_hand.specs.card_image.Own.{own_view, own_covered, counted_view, most_slack}
use Rattle.card_by_hand.specs.hand_model.ByHand.{TellsHands, HandsUpTo}
use Rattle.card_by_hand.specs.hand_model.AtStart.{AreFirst}
use Rattle.card_by_hand.specs.hand_model.Written.{Written, Hands, Lie, Rises, entries_of, hands_of, counted_by}
use Rattle.tach_media.specs.card_layout.Application.{IsApplication}
use Rattle.card_by_hand.specs.card_session.Inserting.{Follow}
use Rattle.card_by_hand.specs.card_session.Sessions.{Session, IsSession}
use Rattle.card_by_hand.specs.First.{AreHandsOf, IsShutAt, ComeFrom}
use Rattle.card_by_hand.specs.card_session.Repairs.{first_minute}
use Rattle.card_string.specs.Carried.{StringFollowsEntries, Broke, Begun}
use Rattle.card_string.specs.Deeds.{IsMade}
use Rattle.card_string.specs.Inserts.{IsOnDay}

-- one of some entries lies on this day
abbrev pub HasOn : ℕ → List Entry → Type 0
HasOn k [] = ⊥
HasOn k (e ∷ es) = (e.minute / 1440 ≡ k) ⊎ HasOn k es

-- The newest day that counts has one of the entries, or is later than the end mark's; and the day of each entry counts.
pub record IsByEntries (slack : Bound) (mark : ℕ) (c : Counted) (all : List Entry) : Type 0 where
  pub newest : (k : ℕ) → is_newest k c.days ≡ true → HasOn k slack.all ⊎ (mark / 1440 < k)
  pub within : AllIn 0 all c.days

-- an entry on each of these days up to that of a mark: where these are carried as entries, such a day stays as they do
abbrev pub day_marks : (mark : ℕ) → List WordDay → List Entry
day_marks mark [] = []
day_marks mark (d ∷ ds) =
    if nat_le d.day (mark / 1440) then record { minute = d.day * 1440; slot = Driver; crew = false; act = Rest }
    ∷ day_marks mark ds
    else day_marks mark ds

-- all entries of a card whose image was this at the start, with these more
abbrev pub all_since : (image : List ℕ) → (more : List Entry) → List Entry
all_since image more = (own_view image).held.entries ++ more

-- the bound of such a card: these entries, and one for each of its days of the start
abbrev pub bound_since : (image : List ℕ) → (more : List Entry) → Bound
bound_since image more = record {
  bytes = most_slack;
  all = day_marks (own_view image).mark (own_view image).held.days
      ++ all_since image more;
}

-- the minute of an entry, 0 without one
abbrev pub minute_of : Option Entry → ℕ
minute_of None = 0
minute_of (Some e) = e.minute

-- the minute of the last entry of a card at the start, 0 without one
abbrev pub last_at : (image : List ℕ) → ℕ
last_at image = minute_of (last_entry (own_view image).held.entries)

-- the newest minute of a card: the later of its end mark and of its newest word's
abbrev pub last_of : Application → List ℕ → ℕ
last_of app x = max (end_mark app x) (newest_word (card_days app x))

-- and the days, with all that was written since: entries, and entries by hand
abbrev pub counted_since : (image : List ℕ) → List Written → Counted
counted_since image ws = counted_by (own_covered image) (counted_view (own_view image)) ws

-- the day of each of these is one that counts
abbrev pub AllOnDays : (days : List WordDay) → List Manual → Type 0
AllOnDays days [] = Unit {0}
AllOnDays days (e ∷ es) = InDays (e.minute / 1440) days × AllOnDays days es

-- OF THE ENTRIES BY HAND, those of the start and those written since, none is later than a mark, each is of a day that
-- counts, and up to the mark days tell those whose day is there
pub record TellsSince (image : List ℕ) (ws : List Written) (mark : ℕ) (days : List Day) : Type 0 where
  pub first : List Manual
  pub are : AreFirst image first
  pub told : TellsHands mark (first ++ hands_of ws) days
  pub low : HandsUpTo mark (first ++ hands_of ws)
  pub within : AllOnDays (counted_since image ws).days (first ++ hands_of ws)

-- what ties them to the end mark, which lies on the start's day or on one that counts; and days and newest vehicle are
-- made of the start's by the keeps of all that was written, and by those that were broken off, each of the next of all;
-- and what was written rises
pub record IsTied (app : Application) (image : List ℕ) (ws : List Written) (all : List Entry) (x : List ℕ) : Type
    0 where
  pub told : IsByEntries (bound_since image (entries_of ws)) (end_mark app x) (counted_since image ws)
      (all_since image (entries_of ws))
  pub day : (end_mark app x / 1440 ≡ (own_view image).mark / 1440)
      ⊎ InDays (end_mark app x / 1440) (counted_since image ws).days
  pub made : IsMade app image (entries_of ws) all x
  pub order : Rises (last_at image) ws

-- The days go on with them, where the next entry is not earlier than `next`; and so they tell of entries by hand, up to
-- the end mark and in all.
pub record GoesSince (app : Application) (image : List ℕ) (ws : List Written) (next : ℕ) (x : List ℕ) : Type 0 where
  pub from : ℕ
  pub later : from ≤ next
  pub goes : StringFollowsEntries app (bound_since image (entries_of ws)) (own_covered image) from
      (counted_since image ws) (all_since image (entries_of ws)) x
  pub tied : IsTied app image ws (entries_of ws) x
  pub marked : TellsSince image ws (end_mark app x) (card_days app x)
  pub hands : TellsSince image ws (last_of app x) (card_days app x)

-- A session was broken off, and these are the next entries; so the days tell of entries by hand up to the end mark, to
-- which a repair cuts them.
pub record BrokeSince (app : Application) (image : List ℕ) (ws : List Written) (rest : List Entry) (next : ℕ)
    (x : List ℕ) : Type 0 where
  pub session : 0 < session_time app x
  pub from : ℕ
  pub later : from ≤ first_minute next rest
  pub left : Broke app (bound_since image (entries_of ws)) (own_covered image) from (counted_since image ws)
      (all_since image (entries_of ws)) x
      ⊎ (Begun app (bound_since image (entries_of ws)) (own_covered image) from (counted_since image ws)
      (all_since image (entries_of ws)) x × IsOnDay (end_mark app x) rest)
  pub tied : IsTied app image ws (entries_of ws ++ rest) x
  pub marked : TellsSince image ws (end_mark app x) (card_days app x)

-- IN ANY CASE: of the entries that came since the first are on the card, and the others, which it lacks, are later than
-- its end mark. No further one comes earlier than `next`. Of the entries by hand it has those of keeps that were
-- acknowledged, and none that was not given to one.
pub record HoldsSince (app : Application) (image : List ℕ) (hands : Hands) (brought : List Entry) (next : ℕ)
    (x : List ℕ) : Type 0 where
  pub written : List Written
  pub rest : List Entry
  pub split : brought ≡ entries_of written ++ rest
  pub lie : Lie hands (hands_of written)
  pub behind : Follow (end_mark app x) rest
  pub stands : GoesSince app image written (first_minute next rest) x ⊎ BrokeSince app image written rest next x

-- IN A SESSION, with all of these entries: it goes on so, with some of the entries by hand that were given to keeps,
-- and all that were acknowledged
pub record SitsSince (app : Application) (image : List ℕ) (hands : Hands) (has : List Entry) (next : ℕ)
    (x : List ℕ) : Type 0 where
  pub written : List Written
  pub has_all : entries_of written ≡ has
  pub lie : Lie hands (hands_of written)
  pub goes : GoesSince app image written next x

-- and the next minute's entry may be kept, with these entries by hand before it: at most eight, and no entry is open
-- where there is one
pub record IsReadySince (s : Session) (image : List ℕ) (h : Hands) (has : List Entry) (next : ℕ) (hands : List Manual)
    (e : Entry) (x : List ℕ) : Type 0 where
  pub sizes : IsApplication s.application
  pub knows : IsSession s x
  pub session : 0 < session_time s.application x
  pub later : s.minute < e.minute
  pub before : ComeFrom (end_mark s.application x) (own_covered image) next hands e
  pub sits : SitsSince s.application image h has next x
  pub are : AreHandsOf s e.minute hands
  pub few : length hands ≤ 8
  pub shut : 0 < length hands → IsShutAt s.application x
