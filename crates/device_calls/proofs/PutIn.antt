-- A card is put in: what is owed to it, and its number.
use Rattle.std.proofs.Common.{◌≡◌, inl, inr, ⊎_elim, ℕ, zero, suc, ◌+◌, ◌/◌, ◌<◌, ◌≤◌, max, Bool, true, false, cond, Option, Some, None, IfSome, List, [], ◌∷◌, ◌++◌, length, drop, filter, refl, ap, subst, sym, ◌∙◌, arith}
use Rattle.std.specs.Prelude.{nat_eq, IfOk, IfErr, Result, Ok, Err}
use Rattle.std.proofs.lemmas.Bool.Decides.{nat_tests}
use Rattle.std.proofs.lemmas.List.{append-nil, length-take-le, length-drop, length-append, take_all}
use Rattle.std.proofs.lemmas.List.Elements.{All-from_recursion}
use Rattle.std.specs.List.{AllByRecursion}
use Rattle.activity_codec.specs.declared.entries.Entry.{Entry}
use Rattle.card_layout.specs.Fields.{number_in, field_at}
use Rattle.tacho_types.specs.CardNumber.{card_number_bytes, card_number_of, card_number_widths}
use Rattle.tach_media.specs.Medium.{State, IsCoherent, HasCause, LeavesOnly, Reads, Unchanged, IsSettled, last_count, bytes_at}
use Rattle.tach_media.proofs.Runs.{starts, weaken, from_reads, after_reads, goes_same, reads_then, cause_after, at_image, if_told, where_told, no_reads}
use Rattle.card_layout.specs.declared.files.Application.{Application}
use Rattle.card_layout.specs.Application.{IsApplication}
use Rattle.card_layout.specs.Files.{files_of, image_size_of, place_of}
use Rattle.unit_rule.specs.card_model.Days.{AreDays}
use Rattle.unit_rule.specs.card_model.Changes.{trimmed}
use Rattle.unit_rule.specs.card_retention.Entries.{newest_word}
use Rattle.card_validity.specs.card_image.Fields.{file, card_number, card_days, end_mark, session_time}
use Rattle.card_validity.specs.card_image.Judging.{first_bad_file, IsValid}
use Rattle.card_validity.specs.card_image.View.{card_view}
use Rattle.card_validity.specs.declared.fault.InsertFault.{InsertFault}
use Rattle.card_validity.specs.declared.fault.InsertFault.TheVariants.{Failed, NotValid, TimeOverlap}
use Rattle.card_validity.specs.declared.looking.CardLook.{CardLook}
use Rattle.card_validity.specs.Faults.{IfNotValid as card_valid, IfTimeOverlap as card_overlap, has_failed}
use Rattle.card_validity.specs.Judged.{IsLook}
use Rattle.tacho_types.specs.declared.texts.Registration.{Registration}
use Rattle.card_session.specs.Sessions.{IsSession}
use Rattle.card_session.specs.Inserting.{AreOwed, Follow, IsCardInserted, IsCardInserting, replayed_count}
use Rattle.card_session.proofs.InsertingBooks.{trimmed_low}
use Rattle.unit_rule.specs.device_rule.Views.{counts, is_session}
use Rattle.unit_rule.proofs.device_rule.OwedView.{owed-seen}
use Rattle.unit_minutes.specs.unit_owed.Owed.{owed_to, row_view}
use Rattle.unit_minutes.specs.unit_owed.Rows.{IsRowFor}
use Rattle.unit_minutes.specs.unit_owed.Searching.{IsSane}
use Rattle.unit_minutes.specs.unit_model.Image.{last_kept}
use Rattle.device_calls.proofs.EntryOwed.{worked}
use Rattle.device_calls.proofs.Passed.{valid-days}
use Rattle.device_calls.specs.declared.entering.Entered.{Entered}
use Rattle.device_calls.specs.declared.entering.NotEntered.{NotEntered}
use Rattle.device_calls.specs.declared.entering.NotEntered.TheVariants.{UnitFailed, CardFailed, NotValid as NotValidCard, TimeOverlap as LaterCard}
use Rattle.unit_rule.specs.card_model.declared.lengths.TheConstants.{DAYS_MOST}
use Rattle.device_calls.specs.Entering.{IsInTime, owed_on, of_card, IsRead, IsAccepted, IsRefused, IsEntering, IsInsertedWith, unit_failed, unit_called, card_failed}

-- how an insertion answers, and what is told of it
abbrev pub refuses : InsertFault → Result Entered NotEntered
refuses fault = Err (of_card fault)

abbrev pub answers : InsertFault → Result CardLook InsertFault
answers fault = Err fault

-- ---- the row that is told

pub row-entered : (r : Result Entered NotEntered) (look : CardLook) (row : ℕ) (es : List Entry) (o : Option (List ℕ)) (spared : Option (List ℕ)) → IfOk r (λ e. e.row ≡ row) → IfOk r (λ e. (e.look ≡ look) × (e.owed.items ≡ es)) → IfSome o (IsRowFor row (card_number_bytes look.number) spared)
    → IfOk r (λ e. IfSome o (IsRowFor e.row (card_number_bytes e.look.number) spared))
row-entered (Ok e) look row es o spared is looked at =
    subst (λ (k : ℕ). IfSome o (IsRowFor k (card_number_bytes e.look.number) spared)) (sym is) (subst (λ (l : CardLook). IfSome o (IsRowFor row (card_number_bytes l.number) spared)) (sym looked.0) at)
row-entered (Err f) look row es o spared is looked at = tt

pub row-low : (r : Result Entered NotEntered) (row : ℕ) → IfOk r (λ e. e.row ≡ row) → row < 8 → IfOk r (λ e. e.row < 8)
row-low (Ok e) row is low = subst (λ (k : ℕ). k < 8) (sym is) low
row-low (Err f) row is low = tt

-- ---- what is owed may be put on a card

sane_follow : (m kept : ℕ) (es : List Entry) → IsSane m kept es → Follow m es
sane_follow m kept [] sane = tt
sane_follow m kept (e ∷ es) sane = (sane.0, sane_follow e.minute kept es sane.3)

sane_before : (m kept until : ℕ) (es : List Entry) → kept < until → IsSane m kept es → AllByRecursion (λ e. e.minute < until) es
sane_before m kept until [] late sane = tt
sane_before m kept until (e ∷ es) late sane = (omega (arith, sane.2, late), sane_before e.minute kept until es late sane.3)

pub owed_fit : (m kept now : ℕ) (es : List Entry) → kept < now / 60 → IsSane m kept es → AreOwed now es
owed_fit m kept now es late sane = (front es sane, All-from_recursion (λ e. e.minute < now / 60) es (sane_before m kept (now / 60) es late sane))
  where
    front : (es : List Entry) → IsSane m kept es → Follow 1439 es
    front [] sane = tt
    front (e ∷ es) sane = (omega (arith, sane.1), sane_follow e.minute kept es sane.3)

-- ---- a card's number, as it is read

part_length : (x : List ℕ) (p n : ℕ) → p + n ≤ length x → length (bytes_at x p n) ≡ n
part_length x p n fits = length-take-le n (drop p x) (omega (arith, length-drop p x, fits))

number_back : (bytes : List ℕ) → length bytes ≡ 18 → card_number_bytes (card_number_of bytes) ≡ bytes
number_back [] is = absurd (omega (arith, is))
number_back (a ∷ []) is = absurd (omega (arith, is))
number_back (a ∷ b ∷ ns) is =
    let kind : number_in card_number_widths 0 (a ∷ b ∷ ns) ≡ a = omega arith in
    let state : number_in card_number_widths 1 (a ∷ b ∷ ns) ≡ b = omega arith in
    let rest : field_at card_number_widths 2 (a ∷ b ∷ ns) ≡ ns = take_all 16 ns (omega (arith, is)) in
    ap (λ (n : ℕ). n ∷ number_in card_number_widths 1 (a ∷ b ∷ ns) ∷ (field_at card_number_widths 2 (a ∷ b ∷ ns) ++ [])) kind
    ∙ ap (λ (n : ℕ). a ∷ n ∷ (field_at card_number_widths 2 (a ∷ b ∷ ns) ++ [])) state
    ∙ ap (λ (l : List ℕ). a ∷ b ∷ (l ++ [])) rest ∙ ap (λ (l : List ℕ). a ∷ b ∷ l) (append-nil ns)

identification_inside : (app : Application) → place_of app (file 0x0520) + 17 ≤ image_size_of app
unfolding files_of
identification_inside app = omega arith

kind_inside : (app : Application) → place_of app (file 0x0501) + 1 ≤ image_size_of app
unfolding files_of
kind_inside app = omega arith

number_long : (app : Application) (x : List ℕ) → image_size_of app ≤ length x → length (card_number app x) ≡ 18
unfolding card_number
number_long app x fits =
    let front = part_length x (place_of app (file 0x0501)) 1 (omega (arith, kind_inside app, fits)) in
    let back = part_length x (place_of app (file 0x0520)) 17 (omega (arith, identification_inside app, fits)) in
    length-append (bytes_at x (place_of app (file 0x0501)) 1) (bytes_at x (place_of app (file 0x0520)) 17) ∙ omega (arith, front, back)

pub number_told : (app : Application) (x : List ℕ) (l : CardLook) → image_size_of app ≤ length x → IsLook app x l → card_number_bytes l.number ≡ card_number app x
number_told app x l fits look = ap card_number_bytes look.number ∙ number_back (card_number app x) (number_long app x fits)

-- ---- what is owed to it

-- a card without a session is owed nothing
none_session : (s : ℕ) → is_session s 0 ≡ false
none_session s = grind (arith, nat_tests)

owed_none : (u number : List ℕ) (after : ℕ) → owed_to u number 0 after ≡ []
owed_none u number after = owed-seen u number 0 after ∙ ap (λ (b : Bool). cond b (filter (λ e. counts (0 / 60) after (last_kept u) e.minute) (row_view number u).cells) []) (none_session (row_view number u).session)

not_zero : (n : ℕ) → 0 < n → nat_eq n 0 ≡ false
not_zero n some = grind (arith, nat_tests)

pub owed_told : (app : Application) (x u : List ℕ) (l : CardLook) → image_size_of app ≤ length x → AreDays 0 (card_days app x) → IsLook app x l → owed_to u (card_number_bytes l.number) l.session l.newest_minute ≡ owed_on app u x
owed_told app x u l fits are look =
    ap (λ (n : List ℕ). owed_to u n l.session l.newest_minute) (number_told app x l fits look) ∙ ap (λ (s : ℕ). owed_to u (card_number app x) s l.newest_minute) look.session ∙ by (session_time app x) refl
  where
    by : (s : ℕ) → session_time app x ≡ s → owed_to u (card_number app x) (session_time app x) l.newest_minute ≡ owed_to u (card_number app x) (session_time app x) (end_mark app x)
    by zero is =
        ap (λ (s : ℕ). owed_to u (card_number app x) s l.newest_minute) is ∙ owed_none u (card_number app x) l.newest_minute ∙ sym (owed_none u (card_number app x) (end_mark app x))
        ∙ ap (λ (s : ℕ). owed_to u (card_number app x) s (end_mark app x)) (sym is)
    by (suc s) is =
        let told : l.newest_minute ≡ max (end_mark app x) (newest_word (trimmed (end_mark app x) (card_days app x))) =
        look.newest_minute ∙ ap (λ (b : Bool). max (end_mark app x) (newest_word (cond b (card_days app x) (trimmed (end_mark app x) (card_days app x))))) (not_zero (session_time app x) (omega (arith, is))) in
        let low = trimmed_low (end_mark app x) (card_days app x) are in
        let at : l.newest_minute ≡ end_mark app x = omega (arith, told, low) in
        ap (λ (n : ℕ). owed_to u (card_number app x) (session_time app x) n) at

-- ---- what an insertion leaves, with what the unit's image owes

module _ (app : Application) (registration : Registration) (odometer now : ℕ) (es : List Entry) (l : CardLook) (u x : List ℕ) (sound : IsApplication app) (fits : image_size_of app ≤ length x) (look : IsLook app x l) (is : es ≡ owed_to u (card_number_bytes l.number) l.session l.newest_minute) where
  pub owed_is : es ≡ owed_on app u x
  owed_is = is ∙ owed_told app x u l fits (valid-days app sound x fits look.valid) look

  pub inserting_owed : (c : List ℕ) → IsCardInserting app registration odometer es now x c → IsCardInserting app registration odometer (owed_on app u x) now x c
  inserting_owed c moment = subst (λ (o : List Entry). IsCardInserting app registration odometer o now x c) owed_is moment

-- ---- a card that is not accepted

pub none_called : (U : State) (fault : InsertFault) → IsRead U U (unit_failed (refuses fault)) (unit_called (refuses fault))
none_called U Failed = record { leaves = starts U Unchanged; same = λ no. refl; clock = refl; cause = λ no. absurd cc; rests = λ no works. (no_reads U works).cause }
none_called U (NotValid fid place) = record { leaves = starts U Unchanged; same = λ no. refl; clock = refl; cause = λ no. absurd cc; rests = λ no works. (no_reads U works).cause }
none_called U (TimeOverlap stored at) = record { leaves = starts U Unchanged; same = λ no. refl; clock = refl; cause = λ no. absurd cc; rests = λ no works. (no_reads U works).cause }

pub fails_so : (fault : InsertFault) → card_failed (refuses fault) ≡ has_failed (answers fault)
fails_so Failed = refl
fails_so (NotValid fid place) = refl
fails_so (TimeOverlap stored at) = refl

fails_any : (T : Type 0) (fault : InsertFault) → card_failed (refuses fault) ≡ has_failed {T = T} (Err fault)
fails_any T Failed = refl
fails_any T (NotValid fid place) = refl
fails_any T (TimeOverlap stored at) = refl

not_ok : false ≡ true → ⊥
not_ok e = cc

pub unit_not : (fault : InsertFault) → unit_failed (refuses fault) ≡ false
unit_not Failed = refl
unit_not (NotValid fid place) = refl
unit_not (TimeOverlap stored at) = refl

-- as the look tells it
pub refused_look : (app : Application) (now : ℕ) (X Y : State) (fault : InsertFault) → card_valid fault (λ fid place. IfSome X.image (λ x. first_bad_file app x ≡ Some (fid, place))) → card_overlap fault (λ stored at. ⊥) → Reads X Y (has_failed (answers fault)) → IsRefused app now X Y (of_card fault)
refused_look app now X Y Failed bad none reads = tt
refused_look app now X Y (NotValid fid place) bad none reads = (reads, bad)
refused_look app now X Y (TimeOverlap stored at) bad none reads = absurd none

-- or the insertion
pub refused_insert : (app : Application) (now : ℕ) (X Y : State) (fault : InsertFault) → card_valid fault (λ fid place. IfSome X.image (λ x. first_bad_file app x ≡ Some (fid, place)))
    → card_overlap fault (λ stored at. (at ≡ now) × (now < stored) × IfSome X.image (λ x. IsValid app x × (stored ≡ (card_view app x).stored)))
    → card_valid fault (λ fid place. Reads X Y false) → card_overlap fault (λ stored at. Reads X Y false) → IsRefused app now X Y (of_card fault)
refused_insert app now X Y Failed bad late reads reads_late = tt
refused_insert app now X Y (NotValid fid place) bad late reads reads_late = (reads, bad)
refused_insert app now X Y (TimeOverlap stored at) bad late reads reads_late = (reads_late, late.0, late.1, late.2)

-- a call on the card before that only read
refused_after : (app : Application) (now : ℕ) (X M Y : State) (f : NotEntered) → Reads X M false → IsRefused app now M Y f → IsRefused app now X Y f
refused_after app now X M Y UnitFailed reads refused = reads_then reads refused
refused_after app now X M Y CardFailed reads refused = tt
refused_after app now X M Y (NotValidCard fid place) reads refused = (reads_then reads refused.0, subst (λ (o : Option (List ℕ)). IfSome o (λ x. first_bad_file app x ≡ Some (fid, place))) (reads.same refl) refused.1)
refused_after app now X M Y (LaterCard stored at) reads refused =
    (reads_then reads refused.0, refused.1, refused.2, subst (λ (o : Option (List ℕ)). IfSome o (λ x. IsValid app x × (stored ≡ (card_view app x).stored))) (reads.same refl) refused.3)

-- ---- the unit is read

pub read_well : (U V : State) (failed called : Bool) → failed ≡ false → Reads U V false → IsRead U V failed called
read_well U V failed called well reads = record { leaves = reads.leaves; same = λ no. reads.same refl; clock = reads.clock; cause = λ was. subst (HasCause U V) (sym well) reads.cause; rests = λ was works. reads.cause }

pub read_badly : (U V : State) → Reads U V true → IsRead U V true true
read_badly U V reads = record { leaves = reads.leaves; same = λ no. absurd cc; clock = reads.clock; cause = λ was. reads.cause; rests = λ was. absurd cc }

-- ---- what all calls leave

module _ (app : Application) (registration : Registration) (odometer now : ℕ) where
  -- the look alone
  pub enters_refused : (U X Y : State) (fault : InsertFault) → card_valid fault (λ fid place. IfSome X.image (λ x. first_bad_file app x ≡ Some (fid, place))) → card_overlap fault (λ stored at. ⊥) → Reads X Y (has_failed (answers fault))
      → IsEntering app registration odometer now U U X Y (refuses fault)
  enters_refused U X Y fault bad none reads = record {
    unit = none_called U fault;
    accepted = tt;
    refused = refused_look app now X Y fault bad none reads;
    moments = if_told U.image _ (λ u told. from_reads reads.leaves);
    begun = inl reads.leaves;
    settled = λ ok. absurd (not_ok ok);
    cause = subst (HasCause X Y) (sym (fails_so fault)) reads.cause;
    most = (let same = reads.clock in omega (arith, same));
  }

  -- and behind it
  pub enters_after : (U V X M Y : State) (r : Result Entered NotEntered) → Reads X M false → IsEntering app registration odometer now U V M Y r → IsEntering app registration odometer now U V X Y r
  enters_after U V X M Y r reads enters = record {
    unit = enters.unit;
    accepted = by r enters.accepted;
    refused = by_fault r enters.refused;
    moments = if_told U.image _ (λ u told. after_reads reads.leaves (reads.same refl) (at_image (λ u. LeavesOnly M Y (λ x c. IsCardInserting app registration odometer (owed_on app u x) now x c)) told enters.moments));
    begun = ⊎_elim (λ read. inl (goes_same reads.leaves read))
        (λ both. inr (
          both.0,
          (worked refl reads.cause).1,
          both.2,
          if_told U.image _ (λ u told. subst (λ (o : Option (List ℕ)). IfSome o (λ x. IsValid app x × AreOwed now (owed_on app u x))) (reads.same refl)
              (at_image (λ u. IfSome M.image (λ x. IsValid app x × AreOwed now (owed_on app u x))) told both.3)),
        )) enters.begun;
    settled = enters.settled;
    cause = cause_after reads.cause enters.cause;
    most = (let same = reads.clock in let most = enters.most in omega (arith, same, most));
  }
    where
      by : (r : Result Entered NotEntered) → IfOk r (λ e. IsAccepted app registration odometer now U.image M.image Y.image e.look e.owed.items e.session e.replayed) → IfOk r (λ e. IsAccepted app registration odometer now U.image X.image Y.image e.look e.owed.items e.session e.replayed)
      by (Ok e) accepted = subst (λ (o : Option (List ℕ)). IsAccepted app registration odometer now U.image o Y.image e.look e.owed.items e.session e.replayed) (reads.same refl) accepted
      by (Err f) accepted = tt

      by_fault : (r : Result Entered NotEntered) → IfErr r (IsRefused app now M Y) → IfErr r (IsRefused app now X Y)
      by_fault (Ok e) refused = tt
      by_fault (Err f) refused = refused_after app now X M Y f reads refused

  pub in_time_after : (X M Y : State) → Reads X M false → IsInTime app now M Y → IsInTime app now X Y
  in_time_after X M Y reads is = ⊎_elim (λ read. inl (goes_same reads.leaves read)) (λ early. inr (subst (λ (o : Option (List ℕ)). IfSome o (λ x. (card_view app x).stored ≤ now)) (reads.same refl) early)) is

  -- the unit failed
  pub enters_cut : (U V X : State) → X.works ≡ true → Reads U V true → IsEntering app registration odometer now U V X X (Err UnitFailed)
  enters_cut U V X works reads = record {
    unit = read_badly U V reads;
    accepted = tt;
    refused = no_reads X works;
    moments = if_told U.image _ (λ u told. starts X _);
    begun = inl (starts X Unchanged);
    settled = λ ok. absurd (not_ok ok);
    cause = (no_reads X works).cause;
    most = omega arith;
  }

  -- the card is inserted
  pub enters_inserted : (U V X Y : State) (l : CardLook) (es : List Entry) (r : Result Entered NotEntered) → IsApplication app → IsCoherent X → X.works ≡ true → image_size_of app ≤ X.size → Reads U V false → IfSome X.image (λ x. IsLook app x l)
      → IfSome U.image (λ u. es ≡ owed_to u (card_number_bytes l.number) l.session l.newest_minute) → AreOwed now es → IsInsertedWith app registration odometer now es l X Y r → Y.clock ≤ X.clock + (DAYS_MOST + 84) → IsEntering app registration odometer now U V X Y r
  enters_inserted U V X Y l es r sound whole works fits reads looked owes fit inserted wrote = record {
    unit = read_well U V (unit_failed r) (unit_called r) inserted.unit reads;
    accepted = by r inserted.looked inserted.valid inserted.inserted inserted.number inserted.few inserted.knows inserted.values;
    refused = inserted.refused;
    moments = if_told U.image _ (λ u told. weaken inserted.moments (λ x c this k. inserting_owed app registration odometer now es l u x sound (room x this) (at_image (λ x. IsLook app x l) this looked)
        (at_image (λ u. es ≡ owed_to u (card_number_bytes l.number) l.session l.newest_minute) told owes) c k));
    begun = inr (
      (worked refl reads.cause).0,
      works,
      reads.same refl,
      if_told U.image _ (λ u told. if_told X.image _ (λ x this. (
        (at_image (λ x. IsLook app x l) this looked).valid,
        subst (AreOwed now) (owed_is app registration odometer now es l u x sound (room x this) (at_image (λ x. IsLook app x l) this looked)
            (at_image (λ u. es ≡ owed_to u (card_number_bytes l.number) l.session l.newest_minute) told owes)) fit,
      ))),
    );
    settled = inserted.settled;
    cause = inserted.cause;
    most = wrote;
  }
    where
      room : (x : List ℕ) → X.image ≡ Some x → image_size_of app ≤ length x
      room x told = omega (arith, fits, whole.sized x told)

      by : (r : Result Entered NotEntered) → IfOk r (λ e. (e.look ≡ l) × (e.owed.items ≡ es)) → IfOk r (λ e. IfSome X.image (λ x. IsValid app x × ((card_view app x).stored ≤ now)))
          → IfOk r (λ e. IfSome X.image (λ x. IfSome Y.image (IsCardInserted app registration odometer es now x))) → IfOk r (λ e. IfSome X.image (λ x. e.replayed ≡ replayed_count (session_time app x) (end_mark app x) es))
          → IfOk r (λ e. e.replayed ≤ length es) → IfOk r (λ e. IfSome X.image (λ x. IfSome Y.image (IsSession e.session))) → IfOk r (λ e. (e.session.application ≡ app) × (e.session.registration ≡ registration) × (e.session.odometer ≡ None))
          → IfOk r (λ e. IsAccepted app registration odometer now U.image X.image Y.image e.look e.owed.items e.session e.replayed)
      by (Err f) same valid done number most knows values = tt
      by (Ok e) same valid done number most knows values =
          subst (λ (os : List Entry). IsAccepted app registration odometer now U.image X.image Y.image e.look os e.session e.replayed) (sym same.1) (record {
            looked = subst (λ (k : CardLook). IfSome X.image (λ x. IsLook app x k)) (sym same.0) looked;
            valid = valid;
            owes = if_told U.image _ (λ u told. where_told X.image Y.image _ (λ x y this now_. owed_is app registration odometer now es l u x sound (room x this) (at_image (λ x. IsLook app x l) this looked)
                (at_image (λ u. es ≡ owed_to u (card_number_bytes l.number) l.session l.newest_minute) told owes)));
            inserted = done;
            number = number;
            few = most;
            fit = fit;
            knows = knows;
            sizes = values.0;
            vehicle = values.1;
            fresh = values.2;
          })

-- ---- the insertion of a session

module _ (app : Application) (registration : Registration) (odometer now : ℕ) (es : List Entry) (l : CardLook) (X Y : State) where
  pub insert_done : (e : Entered) → (e.look ≡ l) × (e.owed.items ≡ es) → IfSome X.image (λ x. IsValid app x × ((card_view app x).stored ≤ now)) → IfSome X.image (λ x. IfSome Y.image (IsCardInserted app registration odometer es now x))
      → IfSome X.image (λ x. e.replayed ≡ replayed_count (session_time app x) (end_mark app x) es) → e.replayed ≤ length es → IfSome X.image (λ x. IfSome Y.image (IsSession e.session))
      → (e.session.application ≡ app) × (e.session.registration ≡ registration) × (e.session.odometer ≡ None) → LeavesOnly X Y (IsCardInserting app registration odometer es now) → (Y.clock < last_count → IsSettled Y) → HasCause X Y false
      → IsInsertedWith app registration odometer now es l X Y (Ok e)
  insert_done e looked valid inserted number few knows values moments settled cause = record {
    unit = refl;
    looked = looked;
    valid = valid;
    inserted = inserted;
    number = number;
    few = few;
    knows = knows;
    values = values;
    refused = tt;
    moments = moments;
    settled = λ ok. settled;
    cause = cause;
  }

  pub insert_refused : (T : Type 0) (fault : InsertFault) → card_valid fault (λ fid place. IfSome X.image (λ x. first_bad_file app x ≡ Some (fid, place)))
      → card_overlap fault (λ stored at. (at ≡ now) × (now < stored) × IfSome X.image (λ x. IsValid app x × (stored ≡ (card_view app x).stored)))
      → card_valid fault (λ fid place. Reads X Y false) → card_overlap fault (λ stored at. Reads X Y false) → LeavesOnly X Y (IsCardInserting app registration odometer es now) → HasCause X Y (has_failed {T = T} (Err fault))
      → IsInsertedWith app registration odometer now es l X Y (refuses fault)
  insert_refused T fault bad late reads reads_late moments cause = record {
    unit = unit_not fault;
    looked = tt;
    valid = tt;
    inserted = tt;
    number = tt;
    few = tt;
    knows = tt;
    values = tt;
    refused = refused_insert app now X Y fault bad late reads reads_late;
    moments = moments;
    settled = λ ok. absurd (not_ok ok);
    cause = subst (HasCause X Y) (sym (fails_any T fault)) cause;
  }
