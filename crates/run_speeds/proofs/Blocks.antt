-- Calls that carry a block more, if there is one.
use Rattle.std.proofs.Common.{◌≡◌, ◌∙◌, inl, inr, ℕ, ◌≤◌, Bool, true, false, cond, not, filter, Option, Some, None, IfSome, is_some, List, [], ◌∷◌, ◌++◌, length, refl, sym, ap, subst, arith, append-nil, append_assoc}
use Rattle.std.specs.Prelude.{option_to_list}
use Rattle.std.specs.List.{AllByRecursion}
use Rattle.tach_media.specs.Medium.{State, IsCoherent, LeavesOnly}
use Rattle.speed_store.specs.gated_ring.Change.{IsAdding, IsAdded}
use Rattle.speed_store.specs.note_model.Rings.{Stand, unsure_count}
use Rattle.speed_store.proofs.run_rings.Few.{few-go, few-unsure}
use Rattle.speed_store.proofs.run_rings.Standing.{stand-unsure}
use Rattle.speed_store.specs.speed_model.declared.block.Block.{Block}
use Rattle.speed_store.specs.speed_model.Blocks.{block_bytes}
use Rattle.speed_store.specs.speed_model.Stored.{speed_ring}
use Rattle.run_speeds.specs.Speeds.{IsBlock, none_sure, CarriesBlocks, HasSpeeds, LeavesSpeeds, CarriesBlock}
use Rattle.run_speeds.proofs.Speeds.{speeds-on, speeds-added, speeds-broken}

no : true ≡ false → ⊥
no e = cc

all-last : (P : Block → Type 0) (xs : List Block) (y : Block) → AllByRecursion P (xs ++ y ∷ []) → P y
all-last P [] y all = all.0
all-last P (x ∷ xs) y all = all-last P xs y all.1

all-weaker : (P Q : Block → Type 0) → ((b : Block) → P b → Q b) → (xs : List Block) → AllByRecursion P xs → AllByRecursion Q xs
all-weaker P Q weaker [] all = tt
all-weaker P Q weaker (x ∷ xs) all = (weaker x all.0, all-weaker P Q weaker xs all.1)

-- ---- a block that is not sure, and is not there

module _ (is_sure : Block → Bool) (start : List ℕ) (began : ℕ) (blocks : List Block) (unit : State) (h : HasSpeeds is_sure start began blocks unit) where
  pub speeds-missing : (b : Block) → is_sure b ≡ false → HasSpeeds is_sure start began (blocks ++ b ∷ []) unit
  speeds-missing b unsure = record {
    later = h.later;
    since = λ x at.
        let s = h.since x at in
        record { front = s.front; rest = s.rest ++ b ∷ []; are = sym (append_assoc s.front s.rest (b ∷ [])) ∙ ap (λ (l : List Block). l ++ b ∷ []) s.are; carries = s.carries };
    now = λ x at. let o = h.now x at in record { more = o.more; stand = stand-unsure is_sure IsBlock blocks o.more b o.stand unsure; carries = o.carries };
    far = λ x at. few-unsure speed_ring none_sure blocks b start x x refl (inl (refl, refl)) (h.far x at);
    few = λ x at. few-unsure speed_ring is_sure blocks b start x x unsure (inl (refl, refl)) (h.few x at);
    newest = λ dense sure x at. absurd (no (sym (all-last (λ (d : Block). is_sure d ≡ true) blocks b sure) ∙ unsure));
  }

  -- no block more is the same blocks
  pub speeds-none : HasSpeeds is_sure start began (blocks ++ []) unit
  speeds-none = subst (λ (l : List Block). HasSpeeds is_sure start began l unit) (sym (append-nil blocks)) h

  pub speeds-unsure : (block : Option Block) → IfSome block (λ b. is_sure b ≡ false) → HasSpeeds is_sure start began (blocks ++ option_to_list block) unit
  speeds-unsure None unsure = speeds-none
  speeds-unsure (Some b) unsure = speeds-missing b unsure

-- ---- calls

-- calls that leave the ring carry no block more,
pub carries-none : (old new : State) (failed : Bool) → LeavesSpeeds old new → CarriesBlock None failed old new
carries-none old new failed leaves = record {
  later = leaves.later;
  carries = λ tells is_sure start began blocks unsure h. speeds-none is_sure start began blocks new (speeds-on is_sure start began blocks old new h leaves);
}

-- nor, where one failed, one that is not sure
pub carries-unsure : (old new : State) (block : Option Block) → LeavesSpeeds old new → CarriesBlock block true old new
carries-unsure old new block leaves = record {
  later = leaves.later;
  carries = λ tells is_sure start began blocks unsure h. speeds-unsure is_sure start began blocks new (speeds-on is_sure start began blocks old new h leaves) block (unsure refl);
}

-- a block that is added, or whose call failed
pub carries-added : (old new : State) → IsCoherent old → IsCoherent new → (b : Block) → length b.speeds ≡ 60 → (failed : Bool) → LeavesOnly old new (IsAdding speed_ring (block_bytes b)) → new.works ≡ not failed →
    (failed ≡ false → IfSome old.image (λ x. IfSome new.image (IsAdded speed_ring (block_bytes b) x))) → CarriesBlock (Some b) failed old new
carries-added old new before after b sixty false run works done = record {
  later = run.later;
  carries = λ tells is_sure start began blocks unsure h. speeds-added is_sure start began blocks old new h before b sixty run after works tells (done refl);
}
carries-added old new before after b sixty true run works done = record {
  later = run.later;
  carries = λ tells is_sure start began blocks unsure h. speeds-broken is_sure start began blocks old new h before b sixty run (unsure refl);
}

-- calls that leave the ring come before it, or behind it
pub carries-behind : (old mid new : State) (block : Option Block) (failed : Bool) → LeavesSpeeds old mid → is_some mid.image ≡ is_some old.image → CarriesBlock block failed mid new → CarriesBlock block failed old new
carries-behind old mid new block failed leaves same c = record {
  later = let a = leaves.later in let b = c.later in omega (arith, a, b);
  carries = λ tells is_sure start began blocks unsure h. c.carries (same ∙ tells) is_sure start began blocks unsure (speeds-on is_sure start began blocks old mid h leaves);
}

pub carries-then : (old mid new : State) (block : Option Block) (failed after : Bool) → (failed ≡ true → after ≡ true) → CarriesBlock block failed old mid → LeavesSpeeds mid new → CarriesBlock block after old new
carries-then old mid new block failed after fails c leaves = record {
  later = let a = c.later in let b = leaves.later in omega (arith, a, b);
  carries = λ tells is_sure start began blocks unsure h. speeds-on is_sure start began (blocks ++ option_to_list block) mid new (c.carries tells is_sure start began blocks (λ f. unsure (fails f)) h) leaves;
}

-- ---- fewer blocks are sure, as more is told

module _ (is_sure fewer : Block → Bool) (less : (b : Block) → is_sure b ≡ false → fewer b ≡ false) where
  stand-fewer : (blocks : List Block) (more : List (List ℕ)) → Stand is_sure IsBlock blocks more → Stand fewer IsBlock blocks more
  stand-fewer [] more h = h
  stand-fewer (b ∷ blocks) more (inl (e, rest, are, is, stand)) = inl (e, rest, are, is, stand-fewer blocks rest stand)
  stand-fewer (b ∷ blocks) more (inr (unsure, stand)) = inr (less b unsure, stand-fewer blocks more stand)

  sure-more : (b : Block) → fewer b ≡ true → is_sure b ≡ true
  sure-more b sure = by (is_sure b) refl
    where
      by : (s : Bool) → is_sure b ≡ s → is_sure b ≡ true
      by true is = is
      by false is = absurd (no (sym sure ∙ less b is))

  unsure-fewer : (blocks : List Block) → unsure_count is_sure blocks ≤ unsure_count fewer blocks
  unsure-fewer [] = omega arith
  unsure-fewer (b ∷ blocks) = by (is_sure b) (fewer b) (less b) (unsure-fewer blocks)
    where
      by : (p q : Bool) → (p ≡ false → q ≡ false) → unsure_count is_sure blocks ≤ unsure_count fewer blocks
          → length (cond (not p) (b ∷ filter (λ n. not (is_sure n)) blocks) (filter (λ n. not (is_sure n)) blocks)) ≤ length (cond (not q) (b ∷ filter (λ n. not (fewer n)) blocks) (filter (λ n. not (fewer n)) blocks))
      by true true is le = le
      by true false is le = omega (arith, le)
      by false true is le = absurd (no (is refl))
      by false false is le = omega (arith, le)

  carried-fewer : (start : List ℕ) (blocks : List Block) (x : List ℕ) → CarriesBlocks is_sure start blocks x → CarriesBlocks fewer start blocks x
  carried-fewer start blocks x o = record { more = o.more; stand = stand-fewer blocks o.more o.stand; carries = o.carries }

  pub speeds-fewer : (start : List ℕ) (began : ℕ) (blocks : List Block) (unit : State) → HasSpeeds is_sure start began blocks unit → HasSpeeds fewer start began blocks unit
  speeds-fewer start began blocks unit h = record {
    later = h.later;
    since = λ x at. let s = h.since x at in record { front = s.front; rest = s.rest; are = s.are; carries = carried-fewer start s.front x s.carries };
    now = λ x at. carried-fewer start blocks x (h.now x at);
    far = h.far;
    few = λ x at. few-go speed_ring is_sure fewer blocks start x x (unsure-fewer blocks) (refl, refl) (h.few x at);
    newest = λ dense sure x at. h.newest dense (all-weaker (λ (b : Block). fewer b ≡ true) (λ (b : Block). is_sure b ≡ true) sure-more blocks sure) x at;
  }
