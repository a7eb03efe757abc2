-- Each image of a card since the start of a run, over a call on it.
use Rattle.std.proofs.Common.{◌≡◌, ◌≢◌, inl, inr, ⊎_elim, ℕ, ◌<◌, ◌≤◌, Bool, false, cond, filter, Some, List, [], ◌∷◌, ◌++◌, append_assoc, length, refl, sym, ◌∙◌, ap, subst, arith}
use Rattle.std.specs.Prelude.{Contains, nat_le, max}
use Rattle.card_by_hand.specs.card_retention.Entries.{newest_word}
use Rattle.std.proofs.lemmas.Bool.Decides.{nat_tests}
use Rattle.std.proofs.lemmas.List.{append-nil}
use Rattle.std.proofs.lemmas.List.Elements.{filter-append, Contains-append_left, Contains-append_right}
use Rattle.card_by_hand.specs.activity_codec.declared.entries.Entry.{Entry}
use Rattle.card_by_hand.specs.activity_codec.declared.entries.Manual.{Manual}
use Rattle.card_by_hand.specs.activity_codec.declared.values.Activity.{Activity}
use Rattle.card_by_hand.specs.tacho_types.declared.texts.Registration.{Registration}
use Rattle.tach_media.specs.Medium.{State, IsCoherent, LeavesOnly, Unchanged}
use Rattle.tach_media.specs.card_layout.declared.files.Application.{Application}
use Rattle.tach_media.specs.card_layout.Application.{IsApplication, application_of}
use Rattle.tach_media.specs.card_layout.Files.{image_size_of, files_of}
use Rattle.card_by_hand.specs.card_retention.Entries.{newest_minute}
use Rattle.card_by_hand.specs.card_retention.Shown.{AllUpTo, sizes}
use Rattle.card_by_hand.specs.card_image.Beside.{HaveSameSizes}
use Rattle.card_by_hand.specs.card_image.Fields.{card_days, end_mark, session_time}
use Rattle.card_by_hand.specs.card_image.Judging.{IsValid}
use Rattle.card_by_hand.specs.card_image.Own.{own_sizes, own_view, KeepsOf}
use Rattle.card_by_hand.specs.card_retention.ByHand.{hands_in}
use Rattle.card_by_hand.specs.hand_model.AtStart.{HasDayOf, hands_at, marked_at, all_at, AreFirst, StaysTold}
use Rattle.card_by_hand.specs.hand_model.ByHand.{by_hand_in, by_hand_up_to}
use Rattle.card_by_hand.specs.hand_model.Written.{Hands, IsPartOf, entries_of, hands_of, and_sure, and_given}
use Rattle.card_by_hand.proofs.hand_model.Contained.{part_contains, in_contains}
use Rattle.card_by_hand.proofs.hand_model.Cuts.{part_first, part_marks}
use Rattle.card_by_hand.proofs.hand_model.Written.{part_both, part_in, part_self, part_then, part_wider}
use Rattle.card_by_hand.specs.card_image.View.{card_view}
use Rattle.card_by_hand.specs.card_session.Sessions.{Session, IsSession}
use Rattle.card_by_hand.specs.First.{AreEntered, IsEntering, IsFirstKeeping}
use Rattle.card_by_hand.specs.card_session.Cards.{IsCardClosing, ended}
use Rattle.card_by_hand.specs.card_session.Inserting.{AreOwed, Follow, IsCardInserting}
use Rattle.card_by_hand.specs.card_session.Repairs.{first_minute, newest_behind, lacked_by}
use Rattle.card_by_hand.proofs.card_session.InsertingAgain.{ended_keeps, inserting_keeps}
use Rattle.card_by_hand.proofs.card_session.InsertingUse.{use_inside}
use Rattle.card_by_hand.proofs.card_session.Marks.{sizes_still}
use Rattle.card_string.specs.Since.{all_since, last_of, TellsSince, HoldsSince, SitsSince, IsReadySince}
use Rattle.card_string.specs.Each.{EachHolds, LeavesString}
use Rattle.card_string.proofs.Since.{beside_holds, given_holds, later_holds, brought_holds}
use Rattle.card_string.proofs.Kept.{holds_kept, keeps_more}
use Rattle.card_string.proofs.OfCards.{card_keep_holds, card_close_holds, open_holds, shut_inserting}

-- ---- the sizes stay

sizes_told : (app : Application) (x y : List ℕ) → HaveSameSizes app x y → own_sizes y ≡ own_sizes x
unfolding own_sizes files_of
sizes_told app x y same = ap application_of same

closing_sizes : (s : Session) (act : Activity) (x y : List ℕ) → image_size_of s.application ≤ length x → IsCardClosing s act x y → own_sizes y ≡ own_sizes x
closing_sizes s act x y fits (inl card) = sizes_told s.application x y (sizes_still s.application _ x y card)
closing_sizes s act x y fits (inr done) =
    ap own_sizes done.session
    ∙ sizes_told s.application done.before (ended s.application done.before) (ended_keeps s.application done.before (ended s.application done.before) (omega (arith, fits, use_inside s.application, done.card.outside.same_length)) refl).0
    ∙ sizes_told s.application x done.before (sizes_still s.application _ x done.before done.card)

-- ---- WHAT A CARD TELLS of entries by hand

hands_told : (app : Application) (x : List ℕ) → by_hand_in app x ≡ by_hand_up_to (end_mark app x) (card_days app x)
unfolding by_hand_in
hands_told app x = refl

since_marked : (app : Application) (image : List ℕ) (h : Hands) (brought : List Entry) (next : ℕ) (x : List ℕ) (k : HoldsSince app image h brought next x) → TellsSince image k.written (end_mark app x) (card_days app x)
since_marked app image h brought next x k = ⊎_elim (λ goes. goes.marked) (λ broke. broke.marked) k.stands

-- some of those that it may tell, and of those that were given
pub holds_part : (app : Application) (image : List ℕ) (h : Hands) (brought : List Entry) (next : ℕ) (x : List ℕ) → HoldsSince app image h brought next x → IsPartOf (by_hand_in app x) (hands_at image ++ h.given)
holds_part app image h brought next x k =
    let t = since_marked app image h brought next x k in
    subst (λ (l : List Manual). IsPartOf l (hands_at image ++ h.given)) (sym (hands_told app x ∙ t.told))
    (part_then (hands_in (sizes (card_days app x)) (t.first ++ hands_of k.written)) (t.first ++ hands_of k.written) (hands_at image ++ h.given) (part_in (sizes (card_days app x)) (t.first ++ hands_of k.written))
    (part_both t.first (hands_at image) (hands_of k.written) h.given (part_first image t.first t.are) k.lie.only))

-- what a card tells by all of its words
own_all_told : (x : List ℕ) → all_at x ≡ by_hand_up_to (last_of (own_sizes x) x) (card_days (own_sizes x) x)
unfolding own_view card_view
own_all_told x = refl

all_told : (app : Application) (x : List ℕ) → own_sizes x ≡ app → all_at x ≡ by_hand_up_to (last_of app x) (card_days app x)
all_told app x same = subst (λ (a : Application). all_at x ≡ by_hand_up_to (last_of a x) (card_days a x)) same (own_all_told x)

-- a card whose session was broken off has one
own_session_told : (x : List ℕ) → (own_view x).session ≡ session_time (own_sizes x) x
unfolding own_view card_view
own_session_told x = refl

session_told : (app : Application) (x : List ℕ) → own_sizes x ≡ app → (own_view x).session ≡ session_time app x
session_told app x same = subst (λ (a : Application). (own_view x).session ≡ session_time a x) same (own_session_told x)

-- where no session is open it is some of those that it may tell, too
pub holds_all : (app : Application) (image : List ℕ) (h : Hands) (brought : List Entry) (next : ℕ) (x : List ℕ) → own_sizes x ≡ app → HoldsSince app image h brought next x → (own_view x).session ≡ 0 → IsPartOf (all_at x) (hands_at image ++ h.given)
holds_all app image h brought next x same k none = ⊎_elim
    (λ goes.
    let t = goes.hands in
    subst (λ (l : List Manual). IsPartOf l (hands_at image ++ h.given)) (sym (all_told app x same ∙ t.told))
    (part_then (hands_in (sizes (card_days app x)) (t.first ++ hands_of k.written)) (t.first ++ hands_of k.written) (hands_at image ++ h.given) (part_in (sizes (card_days app x)) (t.first ++ hands_of k.written))
    (part_both t.first (hands_at image) (hands_of k.written) h.given (part_first image t.first t.are) k.lie.only)))
    (λ broke. absurd (let open_ = broke.session in let is = session_told app x same in omega (arith, open_, is, none)))
    k.stands

-- those of the start are among the first ones
first_marked : (image : List ℕ) (first : List Manual) (e : Manual) → AreFirst image first → Contains (marked_at image) e → Contains first e
first_marked image first e (inl is) marked = subst (λ (l : List Manual). Contains l e) (sym is) marked
first_marked image first e (inr whole) marked =
    subst (λ (l : List Manual). Contains l e) (sym whole.1)
    (part_contains (marked_at image) (all_at image) e (part_marks (own_view image).mark (max (own_view image).mark (newest_word (card_days (own_sizes image) image))) (card_days (own_sizes image) image) (omega arith)) marked)

-- so each of them stays, where its day is there
pub holds_stay : (app : Application) (image : List ℕ) (h : Hands) (brought : List Entry) (next : ℕ) (x : List ℕ) → HoldsSince app image h brought next x → StaysTold image app x
holds_stay app image h brought next x k e marked day =
    let t = since_marked app image h brought next x k in
    subst (λ (l : List Manual). Contains l e) (sym (hands_told app x ∙ t.told))
    (in_contains (sizes (card_days app x)) (t.first ++ hands_of k.written) e day (Contains-append_left t.first (hands_of k.written) e (first_marked image t.first e t.are marked)))

-- and each that is sure, where its day is there
pub holds_sure : (app : Application) (image : List ℕ) (h : Hands) (brought : List Entry) (next : ℕ) (x : List ℕ) (e : Manual) → HoldsSince app image h brought next x → Contains h.sure e → HasDayOf e.minute app x → Contains (by_hand_in app x) e
holds_sure app image h brought next x e k sure day =
    let t = since_marked app image h brought next x k in
    subst (λ (l : List Manual). Contains l e) (sym (hands_told app x ∙ t.told))
    (in_contains (sizes (card_days app x)) (t.first ++ hands_of k.written) e day (Contains-append_right t.first (hands_of k.written) e (part_contains h.sure (hands_of k.written) e k.lie.all sure)))

-- ---- A CALL, by what it leaves of the image that is told; entries by hand may be given to it

module _ (app : Application) (sound : IsApplication app) (image : List ℕ) (start : own_sizes image ≡ app) (h : Hands) (brought : List Entry) (n next began : ℕ) (le : n ≤ next) where
  pub each_giving : (hands : List Manual) (R : List ℕ → List ℕ → Type 0) (old new : State) → began ≤ old.clock → LeavesOnly old new R
      → ((x y : List ℕ) → old.image ≡ Some x → R x y → (own_sizes y ≡ app) × HoldsSince app image (and_given hands h) brought next y) → EachHolds app image h brought n began old → EachHolds app image (and_given hands h) brought next began new
  each_giving hands R old new began_before leaves made each = record {
    now = λ y may. ⊎_elim
        (λ still. let is = each.now y still in (is.0, later_holds app image (and_given hands h) brought n next y le (given_holds app image h hands brought n y is.1)))
        (λ one. made one.0 y one.1 one.2) (leaves.now y may);
    since = λ y left. ⊎_elim
        (λ still. let is = each.since y still in (is.0, keeps_more image h.given (h.given ++ hands) (part_wider h.given h.given hands (part_self h.given)) (all_since image (filter (λ e. nat_le e.minute (own_view y).mark) brought)) (own_view y).held is.1))
        (λ one. let is = made one.0 y one.1 one.2 in (is.0, holds_kept app sound image y start is.0 (and_given hands h) brought next is.1)) (leaves.since began y began_before left);
    told = λ y left. ⊎_elim
        (λ still. subst (λ (l : List Manual). IsPartOf (by_hand_in app y) l) (append_assoc (hands_at image) h.given hands) (part_wider (by_hand_in app y) (hands_at image ++ h.given) hands (each.told y still)))
        (λ one. holds_part app image (and_given hands h) brought next y (made one.0 y one.1 one.2).1) (leaves.since began y began_before left);
    behind = λ y left none. ⊎_elim
        (λ still. subst (λ (l : List Manual). IsPartOf (all_at y) l) (append_assoc (hands_at image) h.given hands) (part_wider (all_at y) (hands_at image ++ h.given) hands (each.behind y still none)))
        (λ one. let is = made one.0 y one.1 one.2 in holds_all app image (and_given hands h) brought next y is.0 is.1 none) (leaves.since began y began_before left);
    stay = λ y left. ⊎_elim
        (λ still. each.stay y still)
        (λ one. holds_stay app image (and_given hands h) brought next y (made one.0 y one.1 one.2).1) (leaves.since began y began_before left);
  }

  pub each_on : (R : List ℕ → List ℕ → Type 0) (old new : State) → began ≤ old.clock → LeavesOnly old new R
      → ((x y : List ℕ) → old.image ≡ Some x → R x y → (own_sizes y ≡ app) × HoldsSince app image h brought next y) → EachHolds app image h brought n began old → EachHolds app image h brought next began new
  each_on R old new began_before leaves made each = record {
    now = λ y may. ⊎_elim
        (λ still. let is = each.now y still in (is.0, later_holds app image h brought n next y le is.1))
        (λ one. made one.0 y one.1 one.2) (leaves.now y may);
    since = λ y left. ⊎_elim
        (λ still. each.since y still)
        (λ one. let is = made one.0 y one.1 one.2 in (is.0, holds_kept app sound image y start is.0 h brought next is.1)) (leaves.since began y began_before left);
    told = λ y left. ⊎_elim
        (λ still. each.told y still)
        (λ one. holds_part app image h brought next y (made one.0 y one.1 one.2).1) (leaves.since began y began_before left);
    behind = λ y left none. ⊎_elim
        (λ still. each.behind y still none)
        (λ one. let is = made one.0 y one.1 one.2 in holds_all app image h brought next y is.0 is.1 none) (leaves.since began y began_before left);
    stay = λ y left. ⊎_elim
        (λ still. each.stay y still)
        (λ one. holds_stay app image h brought next y (made one.0 y one.1 one.2).1) (leaves.since began y began_before left);
  }

  module _ (old new : State) (whole : IsCoherent old) (began_before : began ≤ old.clock) (each : EachHolds app image h brought n began old) where
    told : (x : List ℕ) → old.image ≡ Some x → (own_sizes x ≡ app) × HoldsSince app image h brought n x
    told x is = each.now x (whole.is_left x is)

    -- nothing is written
    pub each_read : LeavesOnly old new Unchanged → EachHolds app image h brought next began new
    each_read leaves = each_on Unchanged old new began_before leaves (λ x y is none. absurd none) each

    -- beside them
    pub each_beside : LeavesOnly old new (LeavesString app) → EachHolds app image h brought next began new
    each_beside leaves =
        each_on (LeavesString app) old new began_before leaves
        (λ x y is same. let t = told x is in (same.sizes ∙ t.0, later_holds app image h brought n next y le (beside_holds app image x y same.book h brought n same.session t.1))) each

    -- an insertion
    module _ (registration : Registration) (odometer now : ℕ) (owed : List Entry) (long : length registration.0 ≡ 15) (are : AreOwed now owed) where
      abbrev MayInsert : List ℕ → Type 0
      MayInsert x = (image_size_of app ≤ length x) × IsValid app x
          × (0 < session_time app x → (newest_behind (card_view app x).newest (lacked_by app x owed) < next) × ((done : List Entry) × AllUpTo (end_mark app x) done × (brought ≡ done ++ lacked_by app x owed)))
          × (session_time app x ≡ 0 → AllUpTo (end_mark app x) brought × (newest_minute (end_mark app x) (card_days app x) < next))

      inserted_one : (x y : List ℕ) → old.image ≡ Some x → MayInsert x → IsCardInserting app registration odometer owed now x y → HoldsSince app image h brought next y
      inserted_one x y is may (inl closed) =
          let ready = may.3 closed.0 in
          shut_inserting app registration now image h brought n x sound may.0 long may.1 closed.0 ready.0 (told x is).1 next le ready.1 y closed.1
      inserted_one x y is may (inr open_) = by (may.2 (some (session_time app x) open_.0))
        where
          some : (m : ℕ) → m ≢ 0 → 0 < m
          some m apart = nz m apart
            where
              nz : (m : ℕ) → (m ≡ 0 → ⊥) → 0 < m
              nz m apart = omega (arith, apart)

          by : (newest_behind (card_view app x).newest (lacked_by app x owed) < next) × ((done : List Entry) × AllUpTo (end_mark app x) done × (brought ≡ done ++ lacked_by app x owed)) → HoldsSince app image h brought next y
          by (late, (done, up, split)) =
              subst (λ (l : List Entry). HoldsSince app image h l next y) (sym split)
              (open_holds app registration odometer now owed image h done n x sound may.0 long are may.1 (some (session_time app x) open_.0) up (subst (λ (l : List Entry). HoldsSince app image h l n x) split (told x is).1) next le late y open_.1)

      pub each_inserting : ((x : List ℕ) → old.image ≡ Some x → MayInsert x) → LeavesOnly old new (IsCardInserting app registration odometer owed now) → EachHolds app image h brought next began new
      each_inserting may leaves =
          each_on (IsCardInserting app registration odometer owed now) old new began_before leaves
          (λ x y is moment.
          let ready = may x is in (
            sizes_told app x y (inserting_keeps app registration odometer now owed long x y (omega (arith, use_inside app, ready.0)) moment).0 ∙ (told x is).0,
            inserted_one x y is ready moment,
          )) each

-- ---- a keep, and a withdrawal

-- a moment of a first keep leaves the sizes
entering_sizes : (hs : List Manual) (s : Session) (x c : List ℕ) → IsEntering hs s x c → own_sizes c ≡ own_sizes x
entering_sizes [] s x c entering = absurd entering
entering_sizes (h ∷ hs) s x c (inl now) = sizes_told s.application x c (sizes_still s.application _ x c now.card)
entering_sizes (h ∷ hs) s x c (inr behind) = entering_sizes hs behind.0 behind.1 c behind.4 ∙ sizes_told s.application x behind.1 (sizes_still s.application _ x behind.1 behind.3.card)

entered_sizes : (hs : List Manual) (s next : Session) (x y : List ℕ) → AreEntered hs s next x y → own_sizes y ≡ own_sizes x
entered_sizes [] s next x y entered = ap own_sizes entered.1
entered_sizes (h ∷ hs) s next x y entered = entered_sizes hs entered.0 next entered.1 y entered.4 ∙ sizes_told s.application x entered.1 (sizes_still s.application _ x entered.1 entered.3.card)

first_sizes : (s : Session) (hs : List Manual) (e : Entry) (odometer : ℕ) (x y : List ℕ) → IsFirstKeeping s hs e odometer x y → own_sizes y ≡ own_sizes x
first_sizes s hs e odometer x y (inl entering) = entering_sizes hs s x y entering
first_sizes s hs e odometer x y (inr behind) =
    sizes_told behind.between.application behind.card y (sizes_still behind.between.application _ behind.card y behind.keeping.card) ∙ entered_sizes hs s behind.between x behind.card behind.entered

module _ (s : Session) (image : List ℕ) (start : own_sizes image ≡ s.application) (began : ℕ) (old new : State) (whole : IsCoherent old) (began_before : began ≤ old.clock) where
  -- the sizes are sound where a card is ready
  pub each_keeping : IsApplication s.application → (h : Hands) (done es : List Entry) (hands : List Manual) (e : Entry) (odometer n next : ℕ) → Follow e.minute es → e.minute < next
      → ((x : List ℕ) → old.image ≡ Some x → IsReadySince s image h done n hands e x) → LeavesOnly old new (IsFirstKeeping s hands e odometer)
      → EachHolds s.application image h (done ++ e ∷ es) next began old → EachHolds s.application image (and_given hands h) (done ++ e ∷ es) next began new
  each_keeping sound h done es hands e odometer n next follow after may leaves each =
      each_giving s.application sound image start h (done ++ e ∷ es) next next began (omega arith) hands (IsFirstKeeping s hands e odometer) old new began_before leaves
      (λ x y is moment. (first_sizes s hands e odometer x y moment ∙ (each.now x (whole.is_left x is)).0, card_keep_holds s image h done n hands e odometer x y (may x is) moment es next follow after)) each

  pub each_closing : IsApplication s.application → (act : Activity) (h : Hands) (done : List Entry) (n m next : ℕ) → n ≤ next → m ≤ next
      → ((x : List ℕ) → old.image ≡ Some x → (image_size_of s.application ≤ length x) × IsSession s x × (0 < session_time s.application x) × (newest_minute (end_mark s.application x) (card_days s.application x) < next) × SitsSince s.application image h done n x)
      → LeavesOnly old new (IsCardClosing s act) → EachHolds s.application image h done m began old
      → EachHolds s.application image h done next began new
  each_closing sound act h done n m next le lower may leaves each =
      each_on s.application sound image start h done m next began lower (IsCardClosing s act) old new began_before leaves
      (λ x y is moment.
      let ready = may x is in (
        closing_sizes s act x y ready.0 moment ∙ (each.now x (whole.is_left x is)).0,
        card_close_holds s act image h done n next x y sound ready.0 ready.1 ready.2 le ready.3 ready.4 moment,
      )) each

-- ---- a keep that was acknowledged

sits_holds : (app : Application) (image : List ℕ) (h : Hands) (brought : List Entry) (next : ℕ) (x : List ℕ) → SitsSince app image h brought next x → HoldsSince app image h brought next x
sits_holds app image h brought next x sits =
    record { written = sits.written; rest = []; split = sym sits.has_all ∙ sym (append-nil (entries_of sits.written)); lie = sits.lie; behind = tt; stands = inl sits.goes }

pub each_sure : (app : Application) (image : List ℕ) (h : Hands) (hands : List Manual) (brought : List Entry) (next began : ℕ) (card : State) → EachHolds app image (and_given hands h) brought next began card
    → ((x : List ℕ) → card.may_leave x → SitsSince app image (and_sure hands h) brought next x) → EachHolds app image (and_sure hands h) brought next began card
each_sure app image h hands brought next began card each sits = record {
  now = λ x may. ((each.now x may).0, sits_holds app image (and_sure hands h) brought next x (sits x may));
  since = each.since;
  told = each.told;
  behind = each.behind;
  stay = each.stay;
}

-- ---- further entries

module _ (app : Application) (image : List ℕ) (brought es : List Entry) (m n next began : ℕ) (follow : Follow m (brought ++ es)) (after : n ≤ first_minute next es) (card : State) (late : (x : List ℕ) → card.left_since began x → Follow (own_view x).mark es) where
  above : (k l : ℕ) → l < k → nat_le k l ≡ false
  above k l lt = grind (arith, nat_tests)

  none_up : (mark k : ℕ) → mark ≤ k → (es : List Entry) → Follow k es → filter (λ (e : Entry). nat_le e.minute mark) es ≡ []
  none_up mark k le [] follow = refl
  none_up mark k le (e ∷ es) follow =
      ap (λ (b : Bool). cond b (e ∷ filter (λ (e : Entry). nat_le e.minute mark) es) (filter (λ (e : Entry). nat_le e.minute mark) es)) (above e.minute mark (omega (arith, le, follow.0)))
      ∙ none_up mark e.minute (omega (arith, le, follow.0)) es follow.1

  pub each_brought : (h : Hands) → EachHolds app image h brought n began card → EachHolds app image h (brought ++ es) next began card
  each_brought h each = record {
    now = λ x may. let is = each.now x may in (is.0, brought_holds app image h brought es m n next x follow after is.1);
    since = λ x left.
        let is = each.since x left in
        let same : filter (λ (e : Entry). nat_le e.minute (own_view x).mark) brought ≡ filter (λ (e : Entry). nat_le e.minute (own_view x).mark) (brought ++ es) =
        sym (filter-append (λ (e : Entry). nat_le e.minute (own_view x).mark) brought es ∙ ap (λ (l : List Entry). filter (λ (e : Entry). nat_le e.minute (own_view x).mark) brought ++ l) (none_up (own_view x).mark (own_view x).mark (omega arith) es (late x left)) ∙ append-nil _) in
        (is.0, subst (λ (l : List Entry). KeepsOf image h.given (all_since image l) (own_view x).held) same is.1);
    told = each.told;
    behind = each.behind;
    stay = each.stay;
  }
