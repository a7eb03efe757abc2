-- What a unit carries of the blocks of a run.
use Rattle.std.proofs.Common.{◌≡◌, ◌⊎◌, inl, inr, ⊎_elim, ℕ, suc, ◌<◌, ◌≤◌, Bool, true, false, cond, not, filter, Some, IfSome, is_some, List, [], ◌∷◌, ◌++◌, length, refl, sym, ◌∙◌, ap, subst, arith, append-nil, append_assoc}
use Rattle.std.specs.List.{AllByRecursion}
use Rattle.tach_media.specs.Medium.{State, IsCoherent, LeavesOnly}
use Rattle.tach_media.proofs.Runs.{at_image, told_too}
use Rattle.speed_store.specs.gated_ring.Ring.{taken, with_head}
use Rattle.speed_store.specs.gated_ring.Change.{IsAdding, IsAdded}
use Rattle.speed_store.proofs.gated_ring.Elsewhere.{ring_elsewhere}
use Rattle.speed_store.specs.note_model.Rings.{AreNoFewer, unsure_count}
use Rattle.speed_store.specs.run_rings.Carried.{RingKeeps}
use Rattle.speed_store.proofs.run_rings.Carried.{carries-none, carries-more, carries-maybe, carries-same}
use Rattle.speed_store.proofs.run_rings.Few.{RingStays, RingMayTake, ring-stays, ring-takes, ring-may, few-start, few-go, few-as, few-more, few-unsure}
use Rattle.speed_store.proofs.run_rings.Standing.{stand-one, stand-unsure}
use Rattle.speed_store.specs.speed_model.declared.block.Block.{Block}
use Rattle.speed_store.specs.speed_model.Blocks.{block_bytes}
use Rattle.speed_store.specs.speed_model.Stored.{speed_ring, HoldsNewest}
use Rattle.speed_store.proofs.Held.{ring-shape, whole-head, newest-begins, newest-added}
use Rattle.run_speeds.specs.Speeds.{IsBlock, HasSpeedRing, none_sure, CarriesBlocks, CarriesSome, HasSpeeds, HasSameSpeeds, LeavesSpeeds}

all-front : (P : Block → Type 0) (xs ys : List Block) → AllByRecursion P (xs ++ ys) → AllByRecursion P xs
all-front P [] ys all = tt
all-front P (x ∷ xs) ys all = (all.0, all-front P xs ys all.1)

all-last : (P : Block → Type 0) (xs : List Block) (y : Block) → AllByRecursion P (xs ++ y ∷ []) → P y
all-last P [] y all = all.0
all-last P (x ∷ xs) y all = all-last P xs y all.1

-- none is sure, so no fewer are missing
pub unsure-all : (is_sure : Block → Bool) (blocks : List Block) → unsure_count is_sure blocks ≤ unsure_count none_sure blocks
unsure-all is_sure [] = omega arith
unsure-all is_sure (b ∷ blocks) = by (is_sure b) (unsure-all is_sure blocks)
  where
    by : (p : Bool) → unsure_count is_sure blocks ≤ unsure_count none_sure blocks
        → length (cond (not p) (b ∷ filter (λ n. not (is_sure n)) blocks) (filter (λ n. not (is_sure n)) blocks)) ≤ suc (unsure_count none_sure blocks)
    by true le = omega (arith, le)
    by false le = omega (arith, le)

newest-same : (start x c : List ℕ) (blocks : List Block) → HoldsNewest start x blocks → HasSameSpeeds x c → HoldsNewest start c blocks
newest-same start x c blocks h same =
    let is = ring_elsewhere speed_ring ring-shape x c same h.points in
    record { points = subst (λ (n : ℕ). n < 1440) (sym is.0) h.points; dense = is.3 h.dense; newest = is.2 ∙ h.newest }

module _ (is_sure : Block → Bool) (start : List ℕ) where
  nothing-yet : HasSpeedRing start → (x : List ℕ) → x ≡ start → CarriesBlocks is_sure start [] x
  nothing-yet ring x is = subst (CarriesBlocks is_sure start []) (sym is) (record { more = []; stand = refl; carries = carries-none speed_ring start ring })

  pub speeds-begin : (began : ℕ) (unit : State) → HasSpeedRing start → began ≤ unit.clock → ((x : List ℕ) → unit.may_leave x → x ≡ start) → ((x : List ℕ) → unit.left_since began x → x ≡ start) → HasSpeeds is_sure start began [] unit
  speeds-begin began unit ring later now since = record {
    later = later;
    since = λ x at. record { front = []; rest = []; are = refl; carries = nothing-yet ring x (since x at) };
    now = λ x at. nothing-yet ring x (now x at);
    far = λ x at. few-start speed_ring none_sure start x ring (since x at);
    few = λ x at. few-start speed_ring is_sure start x ring (now x at);
    newest = λ dense sure x at. subst (λ (y : List ℕ). HoldsNewest start y []) (sym (now x at)) (newest-begins start ring dense);
  }

  -- ---- calls beside the ring

  carried-same : (blocks : List Block) (x c : List ℕ) → CarriesBlocks is_sure start blocks x → HasSameSpeeds x c → CarriesBlocks is_sure start blocks c
  carried-same blocks x c h same = record { more = h.more; stand = h.stand; carries = carries-same speed_ring start x h.more h.carries ring-shape c same }

  whole : (blocks : List Block) (x : List ℕ) → CarriesBlocks is_sure start blocks x → CarriesSome is_sure start blocks x
  whole blocks x h = record { front = blocks; rest = []; are = append-nil blocks; carries = h }

  module _ (began : ℕ) (blocks : List Block) (old new : State) (h : HasSpeeds is_sure start began blocks old) where
    stays : (x c : List ℕ) → old.may_leave x → HasSameSpeeds x c → RingStays speed_ring x c
    stays x c at same = ring-stays speed_ring ring-shape x c same (h.now x at).carries.points

    pub speeds-on : LeavesSpeeds old new → HasSpeeds is_sure start began blocks new
    speeds-on leaves = record {
      later = let a = h.later in let b = leaves.later in omega (arith, a, b);
      since = λ c at. ⊎_elim
          (λ was. h.since c was)
          (λ here. whole blocks c (carried-same blocks here.0 c (h.now here.0 here.1) here.2))
          (leaves.since began c h.later at);
      now = λ c at. let x = leaves.now c at in carried-same blocks x.0 c (h.now x.0 x.1) x.2;
      far = λ c at. ⊎_elim
          (λ was. h.far c was)
          (λ here. few-go speed_ring is_sure none_sure blocks start here.0 c (unsure-all is_sure blocks) (stays here.0 c here.1 here.2) (h.few here.0 here.1))
          (leaves.since began c h.later at);
      few = λ c at. let x = leaves.now c at in few-as speed_ring is_sure blocks start x.0 c (stays x.0 c x.1 x.2) (h.few x.0 x.1);
      newest = λ dense sure c at. let x = leaves.now c at in newest-same start x.0 c blocks (h.newest dense sure x.0 x.1) x.2;
    }

    -- ---- a block more

    module _ (before : IsCoherent old) (b : Block) (sixty : length b.speeds ≡ 60) (run : LeavesOnly old new (IsAdding speed_ring (block_bytes b))) where
      -- an entry more stands for it
      with-entry : (x c : List ℕ) (o : CarriesBlocks is_sure start blocks x) → RingKeeps speed_ring start c (o.more ++ with_head speed_ring x (taken speed_ring x) (block_bytes b) ∷ []) → CarriesBlocks is_sure start (blocks ++ b ∷ []) c
      with-entry x c o carries = record {
        more = o.more ++ block_bytes b ∷ [];
        stand = stand-one is_sure IsBlock blocks o.more b (block_bytes b) o.stand refl;
        carries = subst (λ (e : List ℕ). RingKeeps speed_ring start c (o.more ++ e ∷ [])) (whole-head x (taken speed_ring x) b sixty) carries;
      }

      -- a moment of it carries the blocks before, or this one too
      at-moment : (x c : List ℕ) → old.image ≡ Some x → IsAdding speed_ring (block_bytes b) x c → CarriesBlocks is_sure start blocks c ⊎ CarriesBlocks is_sure start (blocks ++ b ∷ []) c
      at-moment x c told moment =
          let o = h.now x (before.is_left x told) in
          ⊎_elim
          (λ same. inl (record { more = o.more; stand = o.stand; carries = same }))
          (λ more. inr (with-entry x c o more))
          (carries-maybe speed_ring start x o.more o.carries (block_bytes b) c moment)

      some-more : (c : List ℕ) → CarriesSome is_sure start blocks c → CarriesSome is_sure start (blocks ++ b ∷ []) c
      some-more c s = record { front = s.front; rest = s.rest ++ b ∷ []; are = sym (append_assoc s.front s.rest (b ∷ [])) ∙ ap (λ (l : List Block). l ++ b ∷ []) s.are; carries = s.carries }

      since-more : (c : List ℕ) → new.left_since began c → CarriesSome is_sure start (blocks ++ b ∷ []) c
      since-more c at = ⊎_elim
          (λ was. some-more c (h.since c was))
          (λ here. ⊎_elim (λ same. some-more c (whole blocks c same)) (λ more. whole (blocks ++ b ∷ []) c more) (at-moment here.0 c here.1 here.2))
          (run.since began c h.later at)

      -- at a moment of it the ring stays, or this block takes its next place
      takes : (x c : List ℕ) → old.image ≡ Some x → IsAdding speed_ring (block_bytes b) x c → RingMayTake speed_ring x c
      takes x c told moment = ring-may speed_ring (block_bytes b) x c (h.now x (before.is_left x told)).carries.points (inr moment)

      far-more : (c : List ℕ) → new.left_since began c → AreNoFewer speed_ring none_sure (blocks ++ b ∷ []) start c
      far-more c at = ⊎_elim
          (λ was. few-unsure speed_ring none_sure blocks b start c c refl (inl (refl, refl)) (h.far c was))
          (λ here. few-unsure speed_ring none_sure blocks b start here.0 c refl (takes here.0 c here.1 here.2)
          (few-go speed_ring is_sure none_sure blocks start here.0 here.0 (unsure-all is_sure blocks) (refl, refl) (h.few here.0 (before.is_left here.0 here.1))))
          (run.since began c h.later at)

      later-more : began ≤ new.clock
      later-more = let a = h.later in let c = run.later in omega (arith, a, c)

      pub speeds-added : IsCoherent new → new.works ≡ true → is_some old.image ≡ true → IfSome old.image (λ x. IfSome new.image (IsAdded speed_ring (block_bytes b) x)) → HasSpeeds is_sure start began (blocks ++ b ∷ []) new
      speeds-added after works tells done = record {
        later = later-more;
        since = since-more;
        now = λ c at.
            let x = was c at in
            let o = h.now x.0 (before.is_left x.0 x.1) in
            with-entry x.0 c o (carries-more speed_ring start x.0 o.more o.carries (block_bytes b) c (added c at x.0 x.1));
        far = far-more;
        few = λ c at.
            let x = was c at in
            let held = before.is_left x.0 x.1 in
            few-more speed_ring is_sure blocks b start x.0 c (ring-takes speed_ring (block_bytes b) x.0 c (h.now x.0 held).carries.points (added c at x.0 x.1)) (h.few x.0 held);
        newest = λ dense sure c at.
            let x = was c at in
            newest-added start x.0 blocks (h.newest dense (all-front (λ (d : Block). is_sure d ≡ true) blocks (b ∷ []) sure) x.0 (before.is_left x.0 x.1)) b c sixty (added c at x.0 x.1);
      }
        where
          is : (c : List ℕ) → new.may_leave c → new.image ≡ Some c
          is c at = after.only c works at

          was : (c : List ℕ) → new.may_leave c → (x : List ℕ) × (old.image ≡ Some x)
          was c at = told_too new.image old.image c run.tells (is c at)

          added : (c : List ℕ) → new.may_leave c → (x : List ℕ) → old.image ≡ Some x → IsAdded speed_ring (block_bytes b) x c
          added c at x told = at_image (IsAdded speed_ring (block_bytes b) x) (is c at) (at_image (λ (x : List ℕ). IfSome new.image (IsAdded speed_ring (block_bytes b) x)) told done)

      pub speeds-broken : is_sure b ≡ false → HasSpeeds is_sure start began (blocks ++ b ∷ []) new
      speeds-broken unsure = record {
        later = later-more;
        since = since-more;
        now = λ c at. ⊎_elim
            (λ was. missing c (h.now c was))
            (λ here. ⊎_elim (missing c) (λ more. more) (at-moment here.0 c here.1 here.2))
            (run.now c at);
        far = far-more;
        few = λ c at. ⊎_elim
            (λ was. few-unsure speed_ring is_sure blocks b start c c unsure (inl (refl, refl)) (h.few c was))
            (λ here. few-unsure speed_ring is_sure blocks b start here.0 c unsure (takes here.0 c here.1 here.2) (h.few here.0 (before.is_left here.0 here.1)))
            (run.now c at);
        newest = λ dense sure c at. absurd (no (sym (all-last (λ (d : Block). is_sure d ≡ true) blocks b sure) ∙ unsure));
      }
        where
          no : true ≡ false → ⊥
          no e = cc

          missing : (c : List ℕ) → CarriesBlocks is_sure start blocks c → CarriesBlocks is_sure start (blocks ++ b ∷ []) c
          missing c o = record { more = o.more; stand = stand-unsure is_sure IsBlock blocks o.more b o.stand unsure; carries = o.carries }
