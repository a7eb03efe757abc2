-- Notes, one after another: how they go on.
use Rattle.std.proofs.Common.{◌≡◌, ◌≢◌, inl, inr, ℕ, ◌<◌, ◌≤◌, Bool, true, false, Option, Some, None, IfSome, List, [], ◌∷◌, ◌++◌, refl, ap, sym, subst, arith}
use Rattle.std.specs.Prelude.{nat_eq, nat_lt, if◌then◌else◌, option_map, Result, OnOk, is_err}
use Rattle.std.proofs.lemmas.Bool.Decides.{nat_tests}
use Rattle.tach_media.specs.Medium.{State, LeavesOnly, Unchanged}
use Rattle.tach_media.proofs.Runs.{starts, weaken, goes_on, after_reads, at_image, where_told, through, ok_gives}
use Rattle.unit_notes.specs.event_model.declared.kinds.TheConstants.{INSERTION_WHILE_DRIVING, SESSION_NOT_CLOSED, CARD_FAULT}
use Rattle.run_crew.specs.declared.cabin.Cabin.{Cabin}
use Rattle.tacho_types.specs.CardNumber.{card_number_bytes}
use Rattle.tacho_types.specs.declared.card_number.FullCardNumber.{FullCardNumber}
use Rattle.tacho_types.specs.declared.texts.Registration.{Registration}
use Rattle.run_events.specs.gated_ring.Change.{IsAdded, IsAdding}
use Rattle.run_events.specs.message_model.Records.{insertion_ring}
use Rattle.device_calls.specs.unit_owed.Rows.{IsRowBegun, IsRowBeginning}
use Rattle.unit_notes.specs.declared.insertion.Insertion.{Insertion}
use Rattle.unit_notes.specs.Entries.{insertion_bytes, fault_bytes}
use Rattle.unit_notes.specs.Noting.{IsNotingEvent, IsEventNoted}
use Rattle.run_crew.specs.declared.cards.Crew.{Crew}
use Rattle.run_crew.specs.Cabin.{torn_out, crew_of}
use Rattle.run_events.specs.Entries.{entry_of}
use Rattle.run_minutes.specs.declared.keeper.Keeper.{Keeper}
use Rattle.run_minutes.specs.Keeping as keeping
use Rattle.run_insertion.specs.declared.lines.Entering.{Entering}
use Rattle.run_insertion.specs.Noted.{HasNoted, IsOnUnit, IsComing, Inserts, BeginsRow, Tells, AreDone, AreBeingDone, UnitNote, Shows, event_of, fault_of, moving_notes, unclosed_notes, moved_notes, notes_with, moving_event, moving_on_card}

one-image : (o p : Option (List ℕ)) (x y : List ℕ) → p ≡ o → o ≡ Some x → p ≡ Some y → y ≡ x
one-image o p x y same was is = cc

pub not_cut : true ≡ false → ⊥
not_cut e = cc

module _ {T : Type 0} (done moment : T → List ℕ → List ℕ → Type 0) where
  done-both : (ns ms : List T) (x y z : List ℕ) → AreDone done ns x y → AreDone done ms y z → AreDone done (ns ++ ms) x z
  done-both [] ms x y z is next = subst (λ (l : List ℕ). AreDone done ms l z) is next
  done-both (n ∷ ns) ms x y z is next = (is.0, is.1, done-both ns ms is.0 y z is.2 next)

  moment-first : (ns ms : List T) (x c : List ℕ) → AreBeingDone done moment ns x c → AreBeingDone done moment (ns ++ ms) x c
  moment-first [] ms x c is = absurd is
  moment-first (n ∷ ns) ms x c (inl is) = inl is
  moment-first (n ∷ ns) ms x c (inr is) = inr (is.0, is.1, moment-first ns ms is.0 c is.2)

  moment-behind : (ns ms : List T) (x y c : List ℕ) → AreDone done ns x y → AreBeingDone done moment ms y c → AreBeingDone done moment (ns ++ ms) x c
  moment-behind [] ms x y c is next = subst (λ (l : List ℕ). AreBeingDone done moment ms l c) is next
  moment-behind (n ∷ ns) ms x y c is next = inr (is.0, is.1, moment-behind ns ms is.0 y c is.2 next)

  -- reads alone
  pub notes-read : (cut : Bool) {U V : State} → LeavesOnly U V Unchanged → (cut ≡ false → V.image ≡ U.image) → HasNoted done moment [] cut U V
  notes-read cut {U} {V} run same = record {
    whole = λ well. where_told U.image V.image (AreDone done []) (λ x y was is. one-image U.image V.image x y (same well) was is);
    moments = weaken run (λ x c was none. absurd none);
  }

  -- no call yet
  pub no-notes : (cut : Bool) (U : State) → HasNoted done moment [] cut U U
  no-notes cut U = notes-read cut (starts U Unchanged) (λ well. refl)

  -- no call, and it is cut short
  pub notes-unbegun : (ns : List T) (U : State) → HasNoted done moment ns true U U
  notes-unbegun ns U = record { whole = λ well. absurd (not_cut well); moments = starts U (AreBeingDone done moment ns) }

  -- one
  pub one-note : (n : T) {failed : Bool} {U V : State} → (failed ≡ false → IfSome U.image (λ x. IfSome V.image (done n x))) → LeavesOnly U V (moment n) → HasNoted done moment (n ∷ []) failed U V
  one-note n {failed} {U} {V} made run = record {
    whole = λ well. here U.image V.image (made well);
    moments = weaken run (λ x c was is. inl is);
  }
    where
      here : (o p : Option (List ℕ)) → IfSome o (λ x. IfSome p (done n x)) → IfSome o (λ x. IfSome p (AreDone done (n ∷ []) x))
      here None p said = tt
      here (Some x) None said = tt
      here (Some x) (Some y) said = (y, said, refl)

  -- and more
  pub notes-then : {ns ms : List T} {failed : Bool} {U V W : State} → HasNoted done moment ns false U V → HasNoted done moment ms failed V W → HasNoted done moment (ns ++ ms) failed U W
  notes-then {ns} {ms} {failed} {U} {V} {W} first next = record {
    whole = λ well. through U.image V.image W.image (AreDone done ns) (AreDone done ms) (AreDone done (ns ++ ms)) first.moments.tells (first.whole refl) (next.whole well)
        (λ x y z was one two. done-both ns ms x y z one two);
    moments = goes_on (weaken first.moments (λ x c was is. moment-first ns ms x c is)) next.moments
        (λ x y c was is here. moment-behind ns ms x y c (at_image (AreDone done ns x) is (at_image (λ (l : List ℕ). IfSome V.image (AreDone done ns l)) was (first.whole refl))) here);
  }

  -- the first of them were cut short
  pub notes-cut : {ns : List T} (ms : List T) {U V : State} → HasNoted done moment ns true U V → HasNoted done moment (ns ++ ms) true U V
  notes-cut {ns} ms run = record { whole = λ well. absurd (not_cut well); moments = weaken run.moments (λ x c was is. moment-first ns ms x c is) }

  -- so it is, cut short or not
  pub notes-maybe : {ns : List T} {failed : Bool} {U V : State} → HasNoted done moment ns failed U V → HasNoted done moment ns true U V
  notes-maybe run = record { whole = λ well. absurd (not_cut well); moments = run.moments }

  -- reads before
  pub notes-after : {ns : List T} {cut : Bool} {U V W : State} → LeavesOnly U V Unchanged → V.image ≡ U.image → HasNoted done moment ns cut V W → HasNoted done moment ns cut U W
  notes-after {ns} {cut} {U} {V} {W} reads same run = record {
    whole = λ well. subst (λ (o : Option (List ℕ)). IfSome o (λ x. IfSome W.image (AreDone done ns x))) same (run.whole well);
    moments = after_reads reads same run.moments;
  }

  -- by another name of the list
  pub notes-as : {ns ms : List T} {cut : Bool} {U V : State} → ns ≡ ms → HasNoted done moment ns cut U V → HasNoted done moment ms cut U V
  notes-as {ns} {ms} {cut} {U} {V} same run = subst (λ (l : List T). HasNoted done moment l cut U V) same run

-- ---- what comes with an accepted card

pub lt_some : (n : ℕ) → 0 < n → nat_lt 0 n ≡ true
lt_some n some = grind (arith, nat_tests)

lt_none : (n : ℕ) → n ≤ 0 → nat_lt 0 n ≡ false
lt_none n none = grind (arith, nat_tests)

eq_none : (n : ℕ) → n ≡ 0 → nat_eq n 0 ≡ true
eq_none n none = grind (arith, nat_tests)

eq_some : (n : ℕ) → n ≢ 0 → nat_eq n 0 ≡ false
eq_some n some = grind (arith, nat_tests)

pub moving-some : (e : Entering) (cabin : Cabin) → 0 < e.speed → moving_notes e cabin ≡ event_of INSERTION_WHILE_DRIVING e.at.second e.at.second cabin ∷ []
moving-some e cabin some = ap (λ (b : Bool). if b then event_of INSERTION_WHILE_DRIVING e.at.second e.at.second cabin ∷ [] else []) (lt_some e.speed some)

pub moving-none : (e : Entering) (cabin : Cabin) → e.speed ≤ 0 → moving_notes e cabin ≡ []
moving-none e cabin none = ap (λ (b : Bool). if b then event_of INSERTION_WHILE_DRIVING e.at.second e.at.second cabin ∷ [] else []) (lt_none e.speed none)

pub unclosed-none : (session : ℕ) (e : Entering) (cabin : Cabin) → session ≡ 0 → unclosed_notes session e cabin ≡ []
unclosed-none session e cabin none = ap (λ (b : Bool). if b then [] else event_of SESSION_NOT_CLOSED session e.at.second cabin ∷ []) (eq_none session none)

pub unclosed-some : (session : ℕ) (e : Entering) (cabin : Cabin) → session ≢ 0 → unclosed_notes session e cabin ≡ event_of SESSION_NOT_CLOSED session e.at.second cabin ∷ []
unclosed-some session e cabin some = ap (λ (b : Bool). if b then [] else event_of SESSION_NOT_CLOSED session e.at.second cabin ∷ []) (eq_some session some)

pub with-moved : (fell : Bool) (session : ℕ) (e : Entering) (cabin : Cabin) → 0 < e.speed → moved_notes fell e cabin ++ unclosed_notes session e cabin ≡ notes_with fell session e cabin
with-moved false session e cabin some = ap (λ (ns : List UnitNote). ns ++ unclosed_notes session e cabin) (sym (moving-some e cabin some))
with-moved true session e cabin some = ap (λ (ns : List UnitNote). ns ++ fault_of e cabin ∷ unclosed_notes session e cabin) (sym (moving-some e cabin some))

pub with-rest : (session : ℕ) (e : Entering) (cabin : Cabin) → e.speed ≤ 0 → unclosed_notes session e cabin ≡ notes_with false session e cabin
with-rest session e cabin none = ap (λ (ns : List UnitNote). ns ++ unclosed_notes session e cabin) (sym (moving-none e cabin none))

pub card-moving : (vehicle : Registration) (e : Entering) → 0 < e.speed → Shows (moving_event vehicle e) ∷ [] ≡ moving_on_card vehicle e
card-moving vehicle e some = sym (ap (λ (b : Bool). if b then Shows (moving_event vehicle e) ∷ [] else []) (lt_some e.speed some))

pub card-resting : (vehicle : Registration) (e : Entering) → e.speed ≤ 0 → [] ≡ moving_on_card vehicle e
card-resting vehicle e none = sym (ap (λ (b : Bool). if b then Shows (moving_event vehicle e) ∷ [] else []) (lt_none e.speed none))

-- ---- by what the calls say

pub fault-noted : (e : Entering) (k v : Keeper) {A E : Type 0} (r : Result A E) {U V : State} → v ≡ record k { cabin = torn_out e.which e.at.second k.cabin }
    → OnOk r (IfSome U.image (λ x. IfSome V.image (IsEventNoted CARD_FAULT (keeping.fault_of e.at.second (crew_of v.cabin)) x))) → LeavesOnly U V (IsNotingEvent CARD_FAULT (keeping.fault_of e.at.second (crew_of v.cabin)))
    → HasNoted IsOnUnit IsComing (fault_of e k.cabin ∷ []) (is_err r) U V
fault-noted e k v r {U} {V} is noted moments =
    subst (λ (q : Keeper). HasNoted IsOnUnit IsComing (event_of CARD_FAULT e.at.second e.at.second q.cabin ∷ []) (is_err r) U V) is
    (one-note IsOnUnit IsComing (event_of CARD_FAULT e.at.second e.at.second v.cabin) (λ well. ok_gives r noted well) moments)

pub unclosed-noted : (session second : ℕ) (crew : Crew) (cabin : Cabin) {A E : Type 0} (r : Result A E) {U V : State} → crew ≡ crew_of cabin
    → OnOk r (IfSome U.image (λ x. IfSome V.image (IsEventNoted SESSION_NOT_CLOSED (fault_bytes (entry_of SESSION_NOT_CLOSED session second crew crew)) x)))
    → LeavesOnly U V (IsNotingEvent SESSION_NOT_CLOSED (fault_bytes (entry_of SESSION_NOT_CLOSED session second crew crew))) → HasNoted IsOnUnit IsComing (event_of SESSION_NOT_CLOSED session second cabin ∷ []) (is_err r) U V
unclosed-noted session second crew cabin r {U} {V} is noted moments =
    subst (λ (q : Crew). HasNoted IsOnUnit IsComing (Tells (entry_of SESSION_NOT_CLOSED session second q q) ∷ []) (is_err r) U V) is
    (one-note IsOnUnit IsComing (Tells (entry_of SESSION_NOT_CLOSED session second crew crew)) (λ well. ok_gives r noted well) moments)

pub insertion-noted : (made insertion : Insertion) {failed : Bool} {U V : State} → made ≡ insertion → (failed ≡ false → IfSome U.image (λ x. IfSome V.image (IsAdded insertion_ring (insertion_bytes made) x)))
    → LeavesOnly U V (IsAdding insertion_ring (insertion_bytes made)) → HasNoted IsOnUnit IsComing (Inserts insertion ∷ []) failed U V
insertion-noted made insertion {failed} {U} {V} is noted moments = subst (λ (i : Insertion). HasNoted IsOnUnit IsComing (Inserts i ∷ []) failed U V) is (one-note IsOnUnit IsComing (Inserts made) noted moments)

pub row-noted-so : (number : FullCardNumber) (session : ℕ) (spared : Option FullCardNumber) (told : Option (List ℕ)) {A E : Type 0} (r : Result A E) {U V : State}
    → OnOk r (IfSome U.image (λ x. IfSome V.image (IsRowBegun (card_number_bytes number) session told x))) → LeavesOnly U V (IsRowBeginning (card_number_bytes number) session told)
    → told ≡ option_map (λ (s : FullCardNumber). card_number_bytes s) spared → HasNoted IsOnUnit IsComing (BeginsRow number session spared ∷ []) (is_err r) U V
row-noted-so number session spared told r {U} {V} noted moments is =
    one-note IsOnUnit IsComing (BeginsRow number session spared) (λ well. subst (λ (o : Option (List ℕ)). IfSome U.image (λ x. IfSome V.image (IsRowBegun (card_number_bytes number) session o x))) is (ok_gives r noted well))
    (subst (λ (o : Option (List ℕ)). LeavesOnly U V (IsRowBeginning (card_number_bytes number) session o)) is moments)
