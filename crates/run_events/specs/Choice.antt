-- What no log tells of a run, as its seconds come: which session times were found open, and which card was torn out
-- first (profile).
use Rattle.std.specs.Prelude.{◌≡◌, ℕ, suc, ◌<◌, ◌≤◌, true, false, None, List, is_some, nat_eq, if◌then◌else◌}
use Rattle.std.specs.List.{AllByRecursion}
use Rattle.activity_codec.specs.declared.values.Slot.{Slot}
use Rattle.log_model.specs.Log.{In}
use Rattle.log_model.specs.Course.{Visit}
use Rattle.event_model.specs.Events.{Seen, Tearing, number_of, torn_at, accepted_at, entered_at, is_first}

-- what no log tells of tears, with that of one second chosen anew
abbrev pub chosen : ℕ → (here : Tearing) → Tearing → Tearing
chosen n here t = record {
  by_gap = λ u slot. if nat_eq u n then here.by_gap u slot else t.by_gap u slot;
  driver_first = λ u k. if nat_eq u n then here.driver_first u k else t.driver_first u k;
}

-- the session times that were found, with those of one second told anew
abbrev pub told_at : ℕ → (here sessions : ℕ → Visit → ℕ) → ℕ → Visit → ℕ
told_at n here sessions u v = if nat_eq u n then here u v else sessions u v

-- two such choices are the same in one second
pub record AgreeIn (t u : Tearing) (sessions others : ℕ → Visit → ℕ) (n : ℕ) : Type 0 where
  pub by_gap : (slot : Slot) → u.by_gap n slot ≡ t.by_gap n slot
  pub driver_first : (k : ℕ) → u.driver_first n k ≡ t.driver_first n k
  pub sessions_are : (v : Visit) → others n v ≡ sessions n v

-- and in each of these seconds
abbrev pub Agree : (t u : Tearing) → (sessions others : ℕ → Visit → ℕ) → List Seen → Type 0
Agree t u sessions others seen = AllByRecursion (λ x. AgreeIn t u sessions others (number_of x)) seen

-- these seconds come before a number
abbrev pub AreEarlier : ℕ → List Seen → Type 0
AreEarlier n seen = AllByRecursion (λ x. number_of x < n) seen

-- what is chosen of tears fits how a second went: of a power-on, who was accepted and torn out at rest was so as the
-- interruption was noted, and who was not accepted was not; and a card that is put in is not the first of two that are
-- torn out
pub record IsTornIn (t : Tearing) (x : Seen) : Type 0 where
  pub still : (slot : Slot) → x.told.second.speed ≡ 0 → torn_at x (In 0) slot ≡ true
      → is_some (accepted_at x (In 0) slot) ≡ true → t.by_gap (number_of x) slot ≡ true
  pub before : (slot : Slot) → accepted_at x (In 0) slot ≡ None → t.by_gap (number_of x) slot ≡ false
  pub put_in : (n : ℕ) (slot : Slot) → entered_at x (In (suc n)) slot ≡ true
      → is_first t (number_of x) (suc n) slot ≡ false

-- in the seconds from a number on no card was torn out as an interruption was noted
abbrev pub IsPlainFrom : ℕ → Tearing → Type 0
IsPlainFrom n t = (u : ℕ) → n ≤ u → (slot : Slot) → t.by_gap u slot ≡ false

-- nothing is chosen of any second
abbrev pub plain : Tearing
plain = record { by_gap = λ u slot. false; driver_first = λ u k. true }
