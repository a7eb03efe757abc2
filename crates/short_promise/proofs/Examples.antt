-- What the theorem in short says of a few images: one that holds, and some that it refuses.
use Rattle.std.proofs.Common.{◌≡◌, inl, inr, ⊎_elim, ℕ, ◌<◌, Bool, true, false, cond, Some, None, List, [], ◌∷◌, ◌++◌, Contains, append_assoc, length, refl, ap, subst, sym, ◌∙◌, arith}
use Rattle.std.specs.Prelude.{nat_eq, find, unwrap_or, option_map}
use Rattle.safety_model.specs.device_rule.activity_codec.declared.values.Activity.TheVariants.{Rest, Driving, Work}
use Rattle.safety_model.specs.device_rule.trace_model.declared.Card.TheVariants.{A}
use Rattle.safety_model.specs.device_rule.unit_model.Days.{UnitMinute, ShownDay, unknown_minute}
use Rattle.safety_model.specs.device_rule.unit_model.Image.{recorded, last_kept}
use Rattle.safety_model.specs.device_rule.unit_model.Decoding.{Decodes}
use Rattle.safety_model.specs.device_rule.log_model.declared.lines.Mark.{Mark}
use Rattle.safety_model.specs.device_rule.history_model.Minutes.{HistoryMinute}
use Rattle.tach_media.specs.Medium.{State}
use Rattle.safety_model.specs.device_rule.activity_codec.declared.entries.Entry.{Entry}
use Rattle.safety_model.specs.device_rule.activity_codec.declared.values.Slot.TheVariants.{Driver}
use Rattle.safety_model.specs.device_rule.trace_model.declared.Card.{Card}
use Rattle.safety_model.specs.device_rule.run_model.declared.Device.TheVariants.{Unit as Recorder}
use Rattle.safety_model.specs.device_rule.minute_model.declared.Rule.{Rule}
use Rattle.safety_model.specs.device_rule.minute_model.declared.Minute.{Minute}
use Rattle.safety_model.specs.device_rule.log_model.Course.{ToldSecond}
use Rattle.safety_model.specs.device_rule.log_model.Spans.{spans_of}
use Rattle.safety_model.specs.device_rule.history_model.Minutes.{card_history}
use Rattle.safety_model.specs.device_rule.history_model.History.{decided_of}
use Rattle.safety_model.specs.device_rule.history_model.Completeness.{IsMarked}
use Rattle.safety_model.specs.device_rule.Own.{own_view}
use Rattle.safety_model.specs.card_retention.Retains.{entries_from}
use Rattle.safety_model.specs.Recording.{Recording, brought, expected_of, history_of}
use Rattle.short_promise.proofs.Together.{from-within}
use Rattle.safety_model.specs.device_rule.Filling.{seen_by_unit}
use Rattle.std.proofs.lemmas.List.Elements.{All-contains, All-contains_itself, Contains-append_left, Contains-push_cases}
use Rattle.short_promise.specs.InShort.{said, due, IsOverwritten, HasAll, Stands, ShowsFirst, AreTogether, MissesNone}
use Rattle.days_told.proofs.Saying.{told}
use Rattle.short_promise.proofs.Bytes.{empty_image, image_of_both, image_of_other, image_with_hole, image_of_first, empty-days, empty-last, both-days, both-last, both-decodes, other-days, other-last, hole-days, hole-last, first-last}
use Rattle.short_promise.proofs.Images.{said-told}

-- ---- a history of two minutes: in 00:00 of the second day card A drives, in 00:01 it works

abbrev pub first : HistoryMinute
first = record { minute = 1440; driver = record { act = Driving; card = Some A }; codriver = record { act = Rest; card = None } }

abbrev pub second : HistoryMinute
second = record { minute = 1441; driver = record { act = Work; card = Some A }; codriver = record { act = Rest; card = None } }

abbrev pub history : List HistoryMinute
history = first ∷ second ∷ []

-- and how the unit is to hold them
abbrev pub held_first : UnitMinute
held_first = record { minute = 1440; driver = record { act = Driving; present = true }; codriver = record { act = Rest; present = false }; crew = false }

abbrev pub held_second : UnitMinute
held_second = record { minute = 1441; driver = record { act = Work; present = true }; codriver = record { act = Rest; present = false }; crew = false }

-- a minute of work in place of that of driving
abbrev pub held_other : UnitMinute
held_other = record { minute = 1440; driver = record { act = Work; present = true }; codriver = record { act = Rest; present = false }; crew = false }

-- the second day with these minutes
abbrev pub day_of : List UnitMinute → List ShownDay
day_of ms = record { day = 1; minutes = ms } ∷ []

-- WHAT DAYS SAY, by hand
says-first : told (day_of (held_first ∷ held_second ∷ [])) 1440 ≡ held_first
says-first = refl

says-second : told (day_of (held_first ∷ held_second ∷ [])) 1441 ≡ held_second
says-second = refl

says-none : told (day_of (held_first ∷ held_second ∷ [])) 1442 ≡ record { minute = 1442; driver = record { act = Rest; present = false }; codriver = record { act = Rest; present = false }; crew = false }
says-none = refl

says-no-day : told [] 7 ≡ record { minute = 7; driver = record { act = Rest; present = false }; codriver = record { act = Rest; present = false }; crew = false }
says-no-day = refl

-- ---- a unit that had no day at the start, and an image of it with one
module _ (start x : List ℕ) (empty : recorded start ≡ []) (none : last_kept start ≡ 0) where
  due-first : due start history 1440 ≡ held_first
  due-first = refl

  due-second : due start history 1441 ≡ held_second
  due-second = refl

  said-in : (days : List ShownDay) → recorded x ≡ days → (m : ℕ) → said x m ≡ told days m
  said-in days is m = said-told x m ∙ ap (λ (ds : List ShownDay). told ds m) is

  short : (days : List ShownDay) → recorded x ≡ days → length days < 365 → (m : ℕ) → IsOverwritten x m → ⊥
  short days is few m older = let many = older.many in let same : length (recorded x) ≡ length days = ap length is in omega (arith, many, same, few)

  -- IT HOLDS of the image that has both minutes
  holds : recorded x ≡ day_of (held_first ∷ held_second ∷ []) → last_kept x ≡ 1441 → Decodes x → HasAll start history [] x
  holds is last decodes = record {
    history = history;
    is = inl refl;
    decodes = decodes;
    last = inr (second, (1, omega arith, refl), sym last);
    says = λ m le. inl (said-in (day_of (held_first ∷ held_second ∷ [])) is m ∙ sym (due-in m));
  }
    where
      said-start : (m : ℕ) → said start m ≡ unknown_minute m
      said-start m = said-told start m ∙ ap (λ (ds : List ShownDay). told ds m) empty

      due-in : (m : ℕ) → due start history m ≡ unwrap_or (cond (nat_eq 1440 m) (Some held_first) (cond (nat_eq 1441 m) (Some held_second) None)) (unknown_minute m)
      due-in m = ap (unwrap_or (option_map seen_by_unit (find (λ (i : HistoryMinute). nat_eq i.minute m) history))) (said-start m) ∙ over (nat_eq 1440 m) (nat_eq 1441 m)
        where
          over : (b c : Bool) → unwrap_or (option_map seen_by_unit (cond b (Some first) (cond c (Some second) None))) (unknown_minute m)
              ≡ unwrap_or (cond b (Some held_first) (cond c (Some held_second) None)) (unknown_minute m)
          over true c = refl
          over false true = refl
          over false false = refl

  -- NOT OF ONE THAT TELLS ANOTHER MINUTE than the history
  another : recorded x ≡ day_of (held_other ∷ held_second ∷ []) → last_kept x ≡ 1441 → HasAll start history [] x → ⊥
  another is last has = ⊎_elim
      (λ same. let clash : held_other ≡ held_first = sym (said-in (day_of (held_other ∷ held_second ∷ [])) is 1440) ∙ same ∙ ap (λ (p : List HistoryMinute). due start p 1440) ours ∙ due-first in
      let act : Work ≡ Driving = ap (λ (k : UnitMinute). k.driver.act) clash in cc)
      (λ older. short (day_of (held_other ∷ held_second ∷ [])) is (omega arith) 1440 older)
      (has.says 1440 (omega (arith, last)))
    where
      ours : has.history ≡ history
      ours = ⊎_elim (λ same. same) (λ (gone : Contains [] has.history). absurd (omega (arith, gone.1))) has.is

  -- NOT OF ONE WITH A HOLE, which goes on behind a minute that it lacks
  hole : recorded x ≡ day_of (unknown_minute 1440 ∷ held_second ∷ []) → last_kept x ≡ 1441 → HasAll start history [] x → ⊥
  hole is last has = ⊎_elim
      (λ same. let clash : unknown_minute 1440 ≡ held_first = sym (said-in (day_of (unknown_minute 1440 ∷ held_second ∷ [])) is 1440) ∙ same ∙ ap (λ (p : List HistoryMinute). due start p 1440) ours ∙ due-first in
      let act : Rest ≡ Driving = ap (λ (k : UnitMinute). k.driver.act) clash in cc)
      (λ older. short (day_of (unknown_minute 1440 ∷ held_second ∷ [])) is (omega arith) 1440 older)
      (has.says 1440 (omega (arith, last)))
    where
      ours : has.history ≡ history
      ours = ⊎_elim (λ same. same) (λ (gone : Contains [] has.history). absurd (omega (arith, gone.1))) has.is

  -- NOT OF ONE THAT LACKS AN ACKNOWLEDGED MINUTE, if only for a moment: it has not come to it,
  lacks : (since : ℕ) (unit : State) (m : Mark) → m.minute ≡ 1441 → unit.left_since m.clock x → last_kept x ≡ 1440 → Stands history since unit m → ⊥
  lacks since unit m is left last stands = let far = stands.far x left in omega (arith, far, is, last)

  -- or it has gone on without it
  skips : (since : ℕ) (unit : State) (m : Mark) → m.minute ≡ 1440 → unit.left_since m.clock x → recorded x ≡ day_of (unknown_minute 1440 ∷ held_second ∷ []) → Stands (first ∷ []) since unit m → ⊥
  skips since unit m at left is stands = ⊎_elim
      (λ same. let clash : unknown_minute 1440 ≡ held_first = sym (said-in (day_of (unknown_minute 1440 ∷ held_second ∷ [])) is 1440) ∙ ap (said x) (sym at) ∙ same ∙ ap seen_by_unit one in
      let act : Rest ≡ Driving = ap (λ (k : UnitMinute). k.driver.act) clash in cc)
      (λ older. short (day_of (unknown_minute 1440 ∷ held_second ∷ [])) is (omega arith) m.minute older)
      (stands.says x left)
    where
      one : stands.i ≡ first
      one = ⊎_elim (λ none_. absurd (omega (arith, none_.1))) (λ same. sym same) (Contains-push_cases [] first stands.i stands.of)

-- ---- BY THEIR BYTES: each of these images decodes
both-hold : HasAll empty_image history [] image_of_both
both-hold = holds empty_image image_of_both empty-days empty-last both-days both-last both-decodes

other-refused : HasAll empty_image history [] image_of_other → ⊥
other-refused = another empty_image image_of_other empty-days empty-last other-days other-last

hole-refused : HasAll empty_image history [] image_with_hole → ⊥
hole-refused = hole empty_image image_with_hole empty-days empty-last hole-days hole-last

-- of a minute that was acknowledged as 00:01
lack-refused : (since : ℕ) (unit : State) (m : Mark) → m.minute ≡ 1441 → unit.left_since m.clock image_of_first → Stands history since unit m → ⊥
lack-refused since unit m is left = lacks empty_image image_of_first empty-days empty-last since unit m is left first-last

-- and as 00:00
skip-refused : (since : ℕ) (unit : State) (m : Mark) → m.minute ≡ 1440 → unit.left_since m.clock image_with_hole → Stands (first ∷ []) since unit m → ⊥
skip-refused since unit m is left = skips empty_image image_with_hole empty-days empty-last since unit m is left hole-days

-- ---- a card, both together, and what is complete
module _ (r : Recording) (c : Card) where
  -- NOT OF A CARD THAT SHOWS AN ENTRY which it is not to have: work in place of driving
  card-another : (x : List ℕ) → expected_of r c ≡ record { minute = 1440; slot = Driver; crew = false; act = Driving } ∷ [] → (own_view x).held.entries ≡ record { minute = 1440; slot = Driver; crew = false; act = Work } ∷ [] → ShowsFirst r c x → ⊥
  card-another x all has shows = ⊎_elim
      (λ none. absurd (omega (arith, none.1)))
      (λ (same : driven ≡ worked). let act : Driving ≡ Work = ap (λ (e : Entry). e.act) same in cc)
      (Contains-push_cases [] driven worked there)
    where
      driven : Entry
      driven = record { minute = 1440; slot = Driver; crew = false; act = Driving }

      worked : Entry
      worked = record { minute = 1440; slot = Driver; crew = false; act = Work }

      front : List Entry
      front = (brought r c).entries ++ shows.more

      among : Contains front worked
      among = All-contains (Contains front) (entries_from shows.oldest front) worked (from-within (Contains front) shows.oldest front (All-contains_itself front))
          (subst (λ (es : List Entry). Contains es worked) shows.says (subst (λ (es : List Entry). Contains es worked) (sym has) (0, omega arith, refl)))

      there : Contains (driven ∷ []) worked
      there = subst (λ (es : List Entry). Contains es worked) (append_assoc (brought r c).entries shows.more shows.rest ∙ sym shows.whole ∙ all) (Contains-append_left front shows.rest worked among)

  -- NOT OF A CARD THAT IS AHEAD of the unit
  ahead : (u x : List ℕ) (e : Entry) → Contains (card_history c (history_of r)) e → Contains (own_view x).held.entries e → last_kept u < e.minute → AreTogether r c u x → ⊥
  ahead u x e at has late both = let far = both.far e at has in omega (arith, far, late)

-- NOT OF A RUN THAT LEAVES OUT A DECIDED MINUTE, where its log tells of no failed call
left-out : (rule : Rule) (told_ : List ToldSecond) (span : List ToldSecond) (d : Minute) (began now : State) → Contains (spans_of told_) span → Contains (decided_of rule span) d → MissesNone rule (record { breaks = []; refused = []; finds = [] }) told_ [] began now → ⊥
left-out rule told_ span d began now among within complete = ⊎_elim
    (λ (marked : IsMarked [] Recorder d.minute). absurd (let none = marked.1 in omega (arith, none.1)))
    (λ failed. absurd (omega (arith, failed.1)))
    (complete.acknowledged span d among within)

-- NOR OF ONE whose unit broke down and whose log tells of no failed call
untold : (rule : Rule) (told_ : List ToldSecond) (marks : List Mark) (began now : State) → began.breakdowns ≡ 0 → now.breakdowns ≡ 1 → MissesNone rule (record { breaks = []; refused = []; finds = [] }) told_ marks began now → ⊥
untold rule told_ marks began now before after complete = let counted = complete.counted (omega (arith, after)) in omega (arith, counted, before, after)
