-- What a card shows of its events, from call to call of a run.
use Rattle.std.proofs.Common.{◌≡◌, ◌∙◌, ℕ, ◌+◌, ◌≤◌, Bool, true, false, cond, not, ◌||◌, List, [], ◌∷◌, ◌++◌, map, length, refl, sym, ap, subst, arith, append_assoc, append-nil}
use Rattle.std.specs.Prelude.{◌==◌, ◌&&◌, nat_lt}
use Rattle.trace_model.specs.declared.Card.{Card}
use Rattle.tacho_types.specs.declared.texts.Registration.{Registration}
use Rattle.card_files.specs.declared.card_event.CardEvent.{CardEvent}
use Rattle.card_files.specs.declared.current_use.CurrentUse.{CurrentUse}
use Rattle.log_model.specs.Log.{RunLog}
use Rattle.unit_notes.specs.event_model.declared.kinds.TheConstants.{INSERTION_WHILE_DRIVING, SESSION_NOT_CLOSED, POWER_INTERRUPTION}
use Rattle.unit_notes.specs.event_model.Events.{Seen, number_of}
use Rattle.unit_notes.specs.note_model.Done.{has_failed_in}
use Rattle.device_calls.specs.safety_model.Recording.{card_image}
use Rattle.device_calls.specs.safety_model.Safe.{Devices, card_of}
use Rattle.run_insertion.specs.CardEvents.{events_in}
use Rattle.run_note_record.specs.Evented.{images_in}
use Rattle.run_minutes.specs.run_promise.Origin.{Origin}
use Rattle.run_acts.specs.OnCards.{MetSecond, Bringing, unclosed_by, events_by, accepted_in, accepted_on, attempts_in, torn_times, moving_at, moved_in, gaps_on, enters, falls, may_note, is_sure_in, uses_past, met_behind, met_accepted, bringing, IsBrought, AreBrought, ComesTo, StillShows, AreUses}
use Rattle.run_acts.specs.RunCards.{vehicle_in, sizes_in, CardShown}
use Rattle.run_acts.specs.Stays.{Whose, covers, AreKnown as StaysKnown}
use Rattle.run_acts.proofs.OnCards.{uses-append, uses-still, uses-long, uses-past, past-longer, unclosed-append, unclosed-none, events-none}
use Rattle.run_acts.proofs.CardBrings.{AreBoth, AreKnown, known-of, brought-nothing, brought-both}
use Rattle.run_acts.proofs.CardSeconds.{IsSureOfLess, GapsGo, accepted-met, accepted-one, brought-one, brought-split, brought-longer, brought-later, brought-told, brought-images}

-- ---- the uses that were found on a card whose stays are known, as they were before: these more, or none
abbrev pub FindsUses : Origin → Card → (log later : RunLog) → (d e : Devices) → (was more found : List CurrentUse) → Type 0
FindsUses o c log later d e was more found = (whose : Whose) → covers whose c ≡ true → StaysKnown whose o later e → StaysKnown whose o log d × (found ≡ was ++ more)

abbrev pub FindsStill : Origin → Card → (log later : RunLog) → (d e : Devices) → (was found : List CurrentUse) → Type 0
FindsStill o c log later d e was found = (whose : Whose) → covers whose c ≡ true → StaysKnown whose o later e → StaysKnown whose o log d × (found ≡ was)

pub still-finds : (o : Origin) (c : Card) (log later : RunLog) (d e : Devices) (was found : List CurrentUse) → FindsStill o c log later d e was found → FindsUses o c log later d e was [] found
still-finds o c log later d e was found h whose in_ known = let g = h whose in_ known in (g.0, g.1 ∙ sym (append-nil was))

-- ---- what is sure goes on

-- a later log knows of no fewer failures
abbrev pub KeepsFailed : (log later : RunLog) → Type 0
KeepsFailed log later = (u : ℕ) → has_failed_in log u ≡ true → has_failed_in later u ≡ true

sure-back : (e e' m f f' t t' : Bool) → (e ≡ true → e' ≡ true) → (f ≡ true → f' ≡ true) → (t ≡ true → t' ≡ true) → (not (e' && m) || (not f' && not t')) ≡ true → (not (e && m) || (not f && not t)) ≡ true
sure-back false e' m f f' t t' he hf ht is = refl
sure-back true e' false f f' t t' he hf ht is = refl
sure-back true e' true false f' false t' he hf ht is = refl
sure-back true e' true true f' t t' he hf ht is = absurd (let wrong : (not (true && true) || (not true && not t')) ≡ true = subst (λ (b : Bool). (not (b && true) || (not true && not t')) ≡ true) (he refl) (subst (λ (b : Bool). (not (e' && true) || (not b && not t')) ≡ true) (hf refl) is) in cc)
sure-back true e' true false f' true t' he hf ht is =
    absurd (by f' (subst (λ (b : Bool). (not (b && true) || (not f' && not true)) ≡ true) (he refl) (subst (λ (b : Bool). (not (e' && true) || (not f' && not b)) ≡ true) (ht refl) is)))
  where
    by : (b : Bool) → (not (true && true) || (not b && not true)) ≡ true → ⊥
    by true wrong = cc
    by false wrong = cc

-- A second as it has gone so far, and as it has gone on: its events so far may be more
pub record Follows (c : Card) (x y : Seen) : Type 0 where
  pub number : number_of y ≡ number_of x
  pub speed : y.told.second.speed ≡ x.told.second.speed
  pub starts : y.told.starts ≡ x.told.starts
  pub entered : enters c x ≡ true → enters c y ≡ true
  pub torn : falls c x ≡ true → falls c y ≡ true
  pub often : torn_times c x ≤ torn_times c y

note-same : (c : Card) (kind : ℕ) (x y : Seen) → Follows c x y → may_note c kind y ≡ may_note c kind x
note-same c kind x y f = λ i. (kind == SESSION_NOT_CLOSED) || ((kind == INSERTION_WHILE_DRIVING && nat_lt 0 (f.speed i)) || (kind == POWER_INTERRUPTION && f.starts i))

pub sure-in : (c : Card) (kind : ℕ) (log later : RunLog) (x y : Seen) → KeepsFailed log later → Follows c x y → is_sure_in c kind later y ≡ true → is_sure_in c kind log x ≡ true
sure-in c kind log later x y keeps f is =
    sure-back (enters c x) (enters c y) (may_note c kind x) (has_failed_in log (number_of x)) (has_failed_in later (number_of y)) (falls c x) (falls c y) f.entered
    (λ failed. ap (has_failed_in later) f.number ∙ keeps (number_of x) failed) f.torn
    (ap (λ (m : Bool). not (enters c y && m) || (not (has_failed_in later (number_of y)) && not (falls c y))) (sym (note-same c kind x y f)) ∙ is)

pub follows-same : (c : Card) (x : Seen) → Follows c x x
follows-same c x = record { number = refl; speed = refl; starts = refl; entered = λ is. is; torn = λ is. is; often = omega arith }

-- ---- what an acceptance brings

pub moved-same : (c : Card) (own : Registration) (x y : Seen) → y.told.second.speed ≡ x.told.second.speed → accepted_in c y ≡ accepted_in c x → moved_in c own y ≡ moved_in c own x
moved-same c own x y speed accepted = λ i. cond (nat_lt 0 (speed i)) (map (moving_at c own) (accepted i)) []

-- ---- THE LAST SECOND GOES ON

-- interruptions alone come to it, or nothing
abbrev pub interrupting : (second : ℕ) → (gaps : List CardEvent) → Bringing
interrupting u gaps = record { second = u; attempts = 0; gaps = gaps; moved = []; unclosed = [] }

abbrev idle_in : Seen → Bringing
idle_in x = interrupting (number_of x) []

-- a second that has gone on brings this more
pub record GoesOn (c : Card) (own : Registration) (m n : MetSecond) (us : List ℕ) (b : Bringing) : Type 0 where
  pub follows : Follows c m.seen n.seen
  pub accepted : accepted_in c n.seen ≡ accepted_in c m.seen ++ us
  pub second : number_of n.seen ≡ b.second
  pub attempts : attempts_in c m.seen + b.attempts ≤ attempts_in c n.seen
  pub gaps : gaps_on c own n.gap ≡ gaps_on c own m.gap ++ b.gaps
  pub moved : moved_in c own n.seen ≡ moved_in c own m.seen ++ b.moved

less-sure : (c : Card) (log later : RunLog) → KeepsFailed log later → (kind : ℕ) → IsSureOfLess c kind log later
less-sure c log later keeps kind x is = sure-in c kind log later x x keeps (follows-same c x) is

module _ (o : Origin) (c : Card) (log later : RunLog) (front : List MetSecond) (m n : MetSecond) (was found : List CurrentUse) (d e : Devices) where
  abbrev held : ℕ → List ℕ → List (List ℕ)
  held kind x = events_in (sizes_in o c) kind x

  pub card-goes : (us : List ℕ) (more : List CurrentUse) (b : Bringing) → CardShown o c log (front ++ m ∷ []) was d → FindsUses o c log later d e was more found → KeepsFailed log later → GoesOn c (vehicle_in o) m n us b → b.unclosed ≡ unclosed_by more us → ((x : List ℕ) → images_in o d c x → images_in o e c x) → AreUses (images_in o e c) more us
      → ComesTo (images_in o e c) (sizes_in o c) (λ kind. is_sure_in c kind later n.seen) b (card_of d c) (card_of e c) → CardShown o c later (front ++ n ∷ []) found e
  card-goes us more b h finds keeps g unclosed left are comes = record {
    uses = h.uses ++ more;
    are = subst (AreUses (images_in o e c) (h.uses ++ more)) (sym now) (uses-append (images_in o e c) h.uses more (met_accepted c (front ++ m ∷ [])) us all are);
    exact = λ whose in_ known. let told = finds whose in_ known in ap (λ (l : List CurrentUse). l ++ more) (h.exact whose in_ told.0) ∙ sym told.1;
    shows = λ y at kind. let before = comes y at in shown kind before.0 y (h.shows before.0 before.1 kind) (before.2 kind);
  }
    where
      all : AreUses (images_in o e c) h.uses (met_accepted c (front ++ m ∷ []))
      all = uses-still (images_in o d c) (images_in o e c) left h.uses (met_accepted c (front ++ m ∷ [])) h.are

      both : AreUses (images_in o e c) h.uses (met_accepted c front ++ accepted_in c m.seen)
      both = subst (AreUses (images_in o e c) h.uses) (accepted-one c front m) all

      past : AreUses (images_in o e c) (uses_past (met_accepted c front) h.uses) (accepted_in c m.seen)
      past = uses-past (images_in o e c) (met_accepted c front) (accepted_in c m.seen) h.uses both

      now : met_accepted c (front ++ n ∷ []) ≡ met_accepted c (front ++ m ∷ []) ++ us
      now =
          accepted-one c front n ∙ ap (λ (vs : List ℕ). met_accepted c front ++ vs) g.accepted ∙ sym (append_assoc (met_accepted c front) (accepted_in c m.seen) us)
          ∙ ap (λ (vs : List ℕ). vs ++ us) (sym (accepted-one c front m))

      -- what it brought so far, and this more
      sum : AreBoth (bringing c (vehicle_in o) m (unclosed_by (uses_past (met_accepted c front) h.uses) (accepted_in c m.seen))) b
          (bringing c (vehicle_in o) n (unclosed_by (uses_past (met_accepted c front) (h.uses ++ more)) (accepted_in c n.seen)))
      sum = record {
        second = g.follows.number;
        same = g.second;
        attempts = g.attempts;
        gaps = g.gaps;
        moved = g.moved;
        unclosed = (λ i. unclosed_by (past-longer (images_in o e c) (met_accepted c front) (accepted_in c m.seen) h.uses more both i) (g.accepted i))
            ∙ unclosed-append (uses_past (met_accepted c front) h.uses) more (accepted_in c m.seen) us (uses-long (images_in o e c) (uses_past (met_accepted c front) h.uses) (accepted_in c m.seen) past)
            ∙ ap (λ (es : List CardEvent). unclosed_by (uses_past (met_accepted c front) h.uses) (accepted_in c m.seen) ++ es) (sym unclosed);
      }

      known : AreKnown (images_in o e c) (number_of m.seen) (attempts_in c m.seen) (unclosed_by (uses_past (met_accepted c front) h.uses) (accepted_in c m.seen))
      known = known-of (images_in o e c) c m.seen [] (uses_past (met_accepted c front) h.uses) (subst (AreUses (images_in o e c) (uses_past (met_accepted c front) h.uses)) (sym (append-nil (accepted_in c m.seen))) past)

      shown : (kind : ℕ) (x y : List ℕ) → AreBrought c (vehicle_in o) (images_in o d c) kind log (front ++ m ∷ []) h.uses (held kind (card_image o.recording c)) (held kind x)
          → IsBrought (images_in o e c) kind (is_sure_in c kind later n.seen) b (held kind x) (held kind y) → AreBrought c (vehicle_in o) (images_in o e c) kind later (front ++ n ∷ []) (h.uses ++ more) (held kind (card_image o.recording c)) (held kind y)
      shown kind x y before step =
          let start : List (List ℕ) = held kind (card_image o.recording c) in
          let first : Bringing = bringing c (vehicle_in o) m (unclosed_by (uses_past (met_accepted c front) h.uses) (accepted_in c m.seen)) in
          let whole : Bringing = bringing c (vehicle_in o) n (unclosed_by (uses_past (met_accepted c front) (h.uses ++ more)) (accepted_in c n.seen)) in
          let split = brought-split c (vehicle_in o) (images_in o e c) kind log front m h.uses start (held kind x)
          (brought-images c (vehicle_in o) (images_in o d c) (images_in o e c) left kind log (front ++ m ∷ []) h.uses start (held kind x) before) in
          brought-one c (vehicle_in o) (images_in o e c) kind later front n (h.uses ++ more) start split.0 (held kind y)
          (brought-longer c (vehicle_in o) (images_in o e c) kind later front (accepted_in c m.seen) h.uses more start split.0 both
          (brought-later c (vehicle_in o) (images_in o e c) kind log later (less-sure c log later keeps kind) front (accepted_in c m.seen) h.uses start split.0 both split.1))
          (brought-both (images_in o e c) kind (is_sure_in c kind log m.seen) (is_sure_in c kind later n.seen) (sure-in c kind log later m.seen n.seen keeps g.follows) first b whole sum known split.0 (held kind x) (held kind y) split.2 step)

  -- it is not accepted more, and nothing is noted of it
  pub goes-on : CardShown o c log (front ++ m ∷ []) was d → FindsStill o c log later d e was found → KeepsFailed log later → Follows c m.seen n.seen → accepted_in c n.seen ≡ accepted_in c m.seen → gaps_on c (vehicle_in o) n.gap ≡ gaps_on c (vehicle_in o) m.gap
      → ((x : List ℕ) → images_in o d c x → images_in o e c x) → StillShows (sizes_in o c) (card_of d c) (card_of e c) → CardShown o c later (front ++ n ∷ []) found e
  goes-on h finds keeps f accepted gap left still = card-goes [] [] (idle_in n.seen) h (still-finds o c log later d e was found finds) keeps goes refl left tt comes
    where
      goes : GoesOn c (vehicle_in o) m n [] (idle_in n.seen)
      goes = record {
        follows = f;
        accepted = accepted ∙ sym (append-nil (accepted_in c m.seen));
        second = refl;
        attempts = let same : length (accepted_in c n.seen) ≡ length (accepted_in c m.seen) = ap length accepted in let often : torn_times c m.seen ≤ torn_times c n.seen = f.often in omega (arith, same, often);
        gaps = gap ∙ sym (append-nil (gaps_on c (vehicle_in o) m.gap));
        moved = moved-same c (vehicle_in o) m.seen n.seen f.speed accepted ∙ sym (append-nil (moved_in c (vehicle_in o) m.seen));
      }

      comes : ComesTo (images_in o e c) (sizes_in o c) (λ kind. is_sure_in c kind later n.seen) (idle_in n.seen) (card_of d c) (card_of e c)
      comes y at =
          let before = still y at in
          (before.0, before.1, λ kind. brought-nothing (images_in o e c) kind (is_sure_in c kind later n.seen) (idle_in n.seen) (λ sure. events-none kind) (held kind before.0) (held kind y) (before.2 kind))

-- ---- A SECOND MORE, in which it is not accepted, and meets no interruption

plain-moved : (c : Card) (own : Registration) (x : Seen) → accepted_in c x ≡ [] → moved_in c own x ≡ []
plain-moved c own x none = by (nat_lt 0 x.told.second.speed)
  where
    by : (b : Bool) → cond b (map (moving_at c own) (accepted_in c x)) [] ≡ []
    by true = ap (map (moving_at c own)) none
    by false = refl

pub card-next : (o : Origin) (c : Card) (log later : RunLog) (ms : List MetSecond) (n : MetSecond) (was found : List CurrentUse) (d : Devices) → CardShown o c log ms was d → FindsStill o c log later d d was found → KeepsFailed log later → accepted_in c n.seen ≡ [] → gaps_on c (vehicle_in o) n.gap ≡ []
    → CardShown o c later (ms ++ n ∷ []) found d
card-next o c log later ms n was found d h finds keeps none gap = record {
  uses = h.uses;
  are = subst (AreUses (images_in o d c) h.uses) (sym (accepted-one c ms n ∙ ap (λ (us : List ℕ). met_accepted c ms ++ us) none ∙ append-nil (met_accepted c ms))) h.are;
  exact = λ whose in_ known. let told = finds whose in_ known in h.exact whose in_ told.0 ∙ sym told.1;
  shows = λ y at kind.
      let start : List (List ℕ) = events_in (sizes_in o c) kind (card_image o.recording c) in
      let now : List (List ℕ) = events_in (sizes_in o c) kind y in
      brought-one c (vehicle_in o) (images_in o d c) kind later ms n h.uses start now now
      (brought-later c (vehicle_in o) (images_in o d c) kind log later (less-sure c log later keeps kind) ms [] h.uses start now (subst (AreUses (images_in o d c) h.uses) (sym (append-nil (met_accepted c ms))) h.are) (h.shows y at kind))
      (brought-nothing (images_in o d c) kind (is_sure_in c kind later n.seen) (bringing c (vehicle_in o) n (unclosed_by (uses_past (met_accepted c ms) h.uses) (accepted_in c n.seen))) (λ sure. empty kind) now now refl);
}
  where
    empty : (kind : ℕ) → events_by kind (gaps_on c (vehicle_in o) n.gap) (moved_in c (vehicle_in o) n.seen) (unclosed_by (uses_past (met_accepted c ms) h.uses) (accepted_in c n.seen)) ≡ []
    empty kind =
        (λ i. events_by kind (gap i) (plain-moved c (vehicle_in o) n.seen none i) (unclosed_by (uses_past (met_accepted c ms) h.uses) (none i)))
        ∙ ap (events_by kind [] []) (unclosed-none (uses_past (met_accepted c ms) h.uses)) ∙ events-none kind

-- ---- A LOG TELLS MORE of the interruptions
pub card-told : (o : Origin) (c : Card) (log later : RunLog) (xs : List Seen) (was found : List CurrentUse) (d : Devices) → CardShown o c log (met_behind log [] xs) was d → FindsStill o c log later d d was found → KeepsFailed log later → GapsGo c (vehicle_in o) log later [] xs
    → CardShown o c later (met_behind later [] xs) found d
card-told o c log later xs was found d h finds keeps go = record {
  uses = h.uses;
  are = subst (AreUses (images_in o d c) h.uses) (accepted-met c log [] xs ∙ sym (accepted-met c later [] xs)) h.are;
  exact = λ whose in_ known. let told = finds whose in_ known in h.exact whose in_ told.0 ∙ sym told.1;
  shows = λ y at kind. brought-told c (vehicle_in o) (images_in o d c) kind log later (less-sure c log later keeps kind) [] xs [] h.uses (events_in (sizes_in o c) kind (card_image o.recording c)) (events_in (sizes_in o c) kind y)
      (subst (AreUses (images_in o d c) h.uses) (accepted-met c log [] xs ∙ sym (append-nil (accepted_on c xs))) h.are) go (h.shows y at kind);
}
