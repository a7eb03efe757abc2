-- A card in its slot keeps an entry that is owed to it, the first one of its session with its entries by hand: its session, and its string.
use Rattle.std.proofs.Common.{◌≡◌, ◌∙◌, ◌⊎◌, inl, inr, ⊎_elim, ℕ, suc, max, ◌<◌, ◌≤◌, List, [], ◌∷◌, ◌++◌, length, Option, Some, None, IfSome, is_some, refl, sym, subst, arith}
use Rattle.activity_codec.specs.declared.entries.Entry.{Entry}
use Rattle.activity_codec.specs.declared.entries.Manual.{Manual}
use Rattle.tach_media.specs.Medium.{State, IsCoherent, LeavesOnly}
use Rattle.tach_media.proofs.Runs.{at_image, if_told, told_too, weaken}
use Rattle.tach_media.specs.card_layout.declared.files.Application.{Application}
use Rattle.tach_media.specs.card_layout.Application.{IsApplication}
use Rattle.tach_media.specs.card_layout.Files.{image_size_of}
use Rattle.hand_model.specs.card_image.Fields.{end_mark, session_time}
use Rattle.hand_model.specs.card_image.Judging.{IsValid}
use Rattle.hand_model.specs.card_image.Own.{own_sizes, own_covered}
use Rattle.hand_model.specs.Written.{Written, Hands, entries_of, and_sure, and_given}
use Rattle.hand_model.proofs.OfDay.{spans}
use Rattle.card_session.specs.Sessions.{Session, IsSession}
use Rattle.card_session.specs.Cards.{MayEnd}
use Rattle.device_calls.specs.card_by_hand.First.{IsFirstKept, IsFirstKeeping, AreHandsOf, IsShutAt, ComeFrom}
use Rattle.device_calls.specs.card_string.Since.{HoldsSince, SitsSince, IsReadySince, bound_since, counted_since, all_since}
use Rattle.device_calls.specs.card_string.Each.{EachHolds}
use Rattle.device_calls.proofs.card_string.Since.{may_come, later_holds}
use Rattle.device_calls.proofs.card_string.OfCards.{card_keep_holds, card_kept, kept_keeping_of}
use Rattle.device_calls.proofs.card_string.Images.{each_keeping, each_sure}
use Rattle.device_calls.specs.OnCard.{CardMayTake}
use Rattle.run_minutes.proofs.FirstEnds.{first-ends}

-- a later bound
each-later : (app : Application) (image : List ℕ) (hd : Hands) (all : List Entry) (n next began : ℕ) (X : State) → n ≤ next → EachHolds app image hd all n began X → EachHolds app image hd all next began X
each-later app image hd all n next began X le each = record {
  now = λ x left. ((each.now x left).0, later_holds app image hd all n next x le (each.now x left).1);
  since = each.since;
  told = each.told;
  behind = each.behind;
  stay = each.stay;
}

module _ (image : List ℕ) (hd : Hands) (has : List Entry) (s : Session) (hands : List Manual) (e : Entry) (odometer word : ℕ) (are : AreHandsOf s e.minute hands) (few : length hands ≤ 8) (fresh : word < e.minute) (X : State) (free : (hands ≡ []) ⊎ IfSome X.image (IsShutAt s.application)) (come : (x : List ℕ) → X.image ≡ Some x → ComeFrom (end_mark s.application x) (own_covered image) (suc (max word s.minute)) hands e) (whole : IsCoherent X)
    (sound : IsApplication s.application) (sizes : s.application ≡ own_sizes image) (session : IfSome X.image (IsSession s)) (goes : IfSome X.image (SitsSince s.application image hd has (suc (max word s.minute)))) (is : (x : List ℕ) → X.may_leave x → own_sizes x ≡ own_sizes image) where
  late : s.minute < e.minute
  late = spans s.minute e.minute hands are.lie

  some-first : (hs : List Manual) → hs ≡ [] → 0 < length hs → ⊥
  some-first [] none some = absurd (omega (arith, some))
  some-first (h ∷ hs) none some = absurd (cc)

  shut : (x : List ℕ) → X.image ≡ Some x → 0 < length hands → IsShutAt s.application x
  shut x told some = ⊎_elim
      (λ none. absurd (some-first hands none some))
      (λ low. at_image (IsShutAt s.application) told low) free

  -- the entry may come
  abbrev Ready : List Written → (from : ℕ) → List ℕ → Type 0
  Ready ws from x = CardMayTake s (bound_since image (entries_of ws)) (own_covered image) from (counted_since image ws) (all_since image (entries_of ws)) hands e x

  pub ready-here : (ws : List Written) × (from : ℕ) × IfSome X.image (λ x. CardMayTake s (bound_since image (entries_of ws)) (own_covered image) from (counted_since image ws) (all_since image (entries_of ws)) hands e x)
  ready-here = by X.image refl
    where
      by : (o : Option (List ℕ)) → X.image ≡ o → (ws : List Written) × (from : ℕ) × IfSome X.image (Ready ws from)
      by None none = ([], 0, subst (λ (o : Option (List ℕ)). IfSome o (Ready [] 0)) (sym none) tt)
      by (Some x) here =
          let sits : SitsSince s.application image hd has (suc (max word s.minute)) x = at_image (SitsSince s.application image hd has (suc (max word s.minute))) here goes in
          let go = sits.goes in
          let ws : List Written = sits.written in (
            ws,
            go.from,
            subst (λ (o : Option (List ℕ)). IfSome o (Ready ws go.from)) (sym here) (record {
              carried = record {
                application = is x (whole.is_left x here) ∙ sym sizes;
                sizes = sound;
                session = at_image (IsSession s) here session;
                bytes = omega arith;
                goes = go.goes;
              };
              clear = may_come s.application image ws (suc (max word s.minute)) x go e (omega (arith, late, fresh));
              before = ⊎_elim (λ one. inl (omega (arith, go.later, one))) (λ cut. inr (cut.0, omega (arith, go.later, cut.1))) (come x here);
              few = few;
              shut = shut x here;
            }),
          )

  -- so it may come since the start
  ready-since : ((x : List ℕ) → X.image ≡ Some x → 0 < session_time s.application x) → (x : List ℕ) → X.image ≡ Some x → IsReadySince s image hd has (suc (max word s.minute)) hands e x
  ready-since opened x told = record {
    sizes = sound;
    knows = at_image (IsSession s) told session;
    session = opened x told;
    later = late;
    before = come x told;
    sits = at_image (SitsSince s.application image hd has (suc (max word s.minute))) told goes;
    are = are;
    few = few;
    shut = shut x told;
  }

  -- the string of each image, at each moment of the keep and behind it
  pub each-kept : (all : List Entry) → has ++ e ∷ [] ≡ all → (n began : ℕ) (Y : State) → n ≤ suc e.minute → began ≤ X.clock → ((x : List ℕ) → X.image ≡ Some x → 0 < session_time s.application x)
      → LeavesOnly X Y (λ x y. IsSession s x → IsFirstKeeping s hands e odometer x y) → EachHolds (own_sizes image) image hd all n began X → EachHolds (own_sizes image) image (and_given hands hd) all (suc e.minute) began Y
  each-kept all same n began Y le begun opened run each =
      subst (λ (es : List Entry). EachHolds (own_sizes image) image (and_given hands hd) es (suc e.minute) began Y) same
      (subst (λ (app : Application). EachHolds app image (and_given hands hd) (has ++ e ∷ []) (suc e.minute) began Y) sizes
      (each_keeping s image (sym sizes) began X Y whole begun sound hd has [] hands e odometer (suc (max word s.minute)) (suc e.minute) tt (omega arith) (ready-since opened)
      (weaken run (λ x y told keeping. keeping (at_image (IsSession s) told session)))
      (subst (λ (app : Application). EachHolds app image hd (has ++ e ∷ []) (suc e.minute) began X) (sym sizes)
      (subst (λ (es : List Entry). EachHolds (own_sizes image) image hd es (suc e.minute) began X) (sym same) (each-later (own_sizes image) image hd all n (suc e.minute) began X le each)))))

  -- each moment of it holds the string
  pub moment-holds : ((x : List ℕ) → X.image ≡ Some x → 0 < session_time s.application x) → (x y : List ℕ) → X.image ≡ Some x → (IsSession s x → IsFirstKeeping s hands e odometer x y) → HoldsSince (own_sizes image) image (and_given hands hd) (has ++ e ∷ []) (suc e.minute) y
  moment-holds opened x y told keeping =
      subst (λ (app : Application). HoldsSince app image (and_given hands hd) (has ++ e ∷ []) (suc e.minute) y) sizes
      (card_keep_holds s image hd has (suc (max word s.minute)) hands e odometer x y (ready-since opened x told) (keeping (at_image (IsSession s) told session)) [] (suc e.minute) tt (omega arith))

  -- behind a keep that did not fail the session goes on
  module _ (t : Session) (Y : State) (tells : is_some Y.image ≡ is_some X.image) (at : t.minute ≡ e.minute) (kept : IfSome X.image (λ x. IfSome Y.image (λ y. IsSession s x → IsFirstKept s t hands e odometer x y))) where
    kept-image : (y : List ℕ) → Y.image ≡ Some y → (x : List ℕ) × (X.image ≡ Some x) × IsFirstKept s t hands e odometer x y
    kept-image y told =
        let was = told_too Y.image X.image y tells told in
        (was.0, was.1, at_image (λ y. IsSession s was.0 → IsFirstKept s t hands e odometer was.0 y) told (at_image (λ x. IfSome Y.image (λ y. IsSession s x → IsFirstKept s t hands e odometer x y)) was.1 kept) (at_image (IsSession s) was.1 session))

    pub session-on : IfSome Y.image (IsSession t)
    session-on = if_told Y.image (IsSession t) (λ y told. (kept-image y told).2.kept.knows)

    sits-on : ((x : List ℕ) → X.image ≡ Some x → 0 < session_time s.application x) → (y : List ℕ) → Y.image ≡ Some y → SitsSince s.application image (and_sure hands hd) (has ++ e ∷ []) (suc e.minute) y
    sits-on opened y told =
        let was = kept-image y told in
        let moved = kept_keeping_of s t hands e odometer was.0 y was.2 in
        card_kept s image hd has (suc (max word s.minute)) hands e odometer was.0 y (ready-since opened was.0 was.1) moved.0 moved.1

    pub goes-on : t.application ≡ s.application → ((x : List ℕ) → X.image ≡ Some x → 0 < session_time s.application x) → IfSome Y.image (SitsSince t.application image (and_sure hands hd) (has ++ e ∷ []) (suc (max word t.minute)))
    goes-on same opened = if_told Y.image (SitsSince t.application image (and_sure hands hd) (has ++ e ∷ []) (suc (max word t.minute))) (λ y told.
        let bound : suc e.minute ≡ suc (max word t.minute) = omega (arith, at, fresh) in
        subst (λ (app : Application). SitsSince app image (and_sure hands hd) (has ++ e ∷ []) (suc (max word t.minute)) y) (sym same)
        (subst (λ (n : ℕ). SitsSince s.application image (and_sure hands hd) (has ++ e ∷ []) n y) bound (sits-on opened y told)))

    -- each image that a stop may leave then sits so, where it is the one that is told: so its entries by hand are sure
    pub each-sure : (all : List Entry) → has ++ e ∷ [] ≡ all → (began : ℕ) → ((x : List ℕ) → X.image ≡ Some x → 0 < session_time s.application x) → ((y : List ℕ) → Y.may_leave y → Y.image ≡ Some y)
        → EachHolds (own_sizes image) image (and_given hands hd) all (suc e.minute) began Y → EachHolds (own_sizes image) image (and_sure hands hd) all (suc e.minute) began Y
    each-sure all same began opened alone each =
        each_sure (own_sizes image) image hd hands all (suc e.minute) began Y each
        (λ y left. subst (λ (es : List Entry). SitsSince (own_sizes image) image (and_sure hands hd) es (suc e.minute) y) same
        (subst (λ (app : Application). SitsSince app image (and_sure hands hd) (has ++ e ∷ []) (suc e.minute) y) sizes (sits-on opened y (alone y left))))

    -- and it would be valid, were the session ended
    pub ends-on : t.application ≡ s.application → ((x : List ℕ) → X.image ≡ Some x → (image_size_of s.application ≤ length x) × IsValid s.application x × (0 < session_time s.application x)) → IfSome Y.image (MayEnd t.application)
    ends-on same there = if_told Y.image (MayEnd t.application) (λ y told.
        let was = kept-image y told in
        let before = there was.0 was.1 in
        subst (λ (app : Application). MayEnd app y) (sym same)
        (first-ends s t hands e odometer was.0 y sound (at_image (IsSession s) was.1 session) are before.0 before.1 before.2 was.2))
