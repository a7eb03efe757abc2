-- What adding a block leaves of a unit, and the notes behind it.
use Rattle.std.proofs.Common.{◌≡◌, inl, inr, ℕ, ◌+◌, ◌<◌, Bool, false, not, Option, Some, None, IfSome, List, length, refl, sym, subst, arith}
use Rattle.tach_media.specs.Medium.{State, IsCoherent, LeavesOnly}
use Rattle.tach_media.proofs.Runs.{goes_on, weaken, through, at_image}
use Rattle.unit_notes.specs.Journal.{LeavesJournal}
use Rattle.unit_notes.proofs.Journals.{block_adding}
use Rattle.speed_model.specs.declared.block.Block.{Block}
use Rattle.speed_model.specs.Blocks.{block_bytes}
use Rattle.run_speeds.specs.Speeds.{CarriesBlock}
use Rattle.run_speeds.proofs.Leaving.{leaves-moments}
use Rattle.run_speeds.proofs.Blocks.{carries-none, carries-added}
use Rattle.run_events.proofs.NoteSpeeds.{same-speeds}
use Rattle.run_events.specs.declared.watch.Ended.{Ended}
use Rattle.run_events.specs.Noting.{AreNoted, AreBeingNoted}
use Rattle.run_events.specs.Blocks.{IsBlockPut, IsPuttingBlock, AreNotedBehind, AreBeingNotedBehind}

-- ---- adding a block leaves what a journal reads

itself : (x : List ℕ) → LeavesJournal x x
itself x = record { keeps = record { front = refl; rest = refl; spare = refl; same_length = refl }; decodes = λ d. d }

pub putting-journal : (block : Option Block) (x c : List ℕ) → IsPuttingBlock block x c → LeavesJournal x c
putting-journal None x c is = subst (LeavesJournal x) (sym is) (itself x)
putting-journal (Some b) x c moment = block_adding (block_bytes b) x c moment

-- ---- the block, and then the notes

pub first-on : (block : Option Block) (ended : Ended) {U M : State} → LeavesOnly U M (IsPuttingBlock block) → LeavesOnly U M (AreBeingNotedBehind block ended)
first-on block ended run = weaken run (λ x c was moment. inl moment)

-- the image with the block, where both are told
between-put : (block : Option Block) (U M : State) → IfSome U.image (λ x. IfSome M.image (IsBlockPut block x)) → (x y : List ℕ) → U.image ≡ Some x → M.image ≡ Some y → IsBlockPut block x y
between-put block U M done x y was is = at_image (IsBlockPut block x) is (at_image (λ (x : List ℕ). IfSome M.image (IsBlockPut block x)) was done)

module _ (block : Option Block) (ended : Ended) (U M V : State) (first : LeavesOnly U M (IsPuttingBlock block)) (done : IfSome U.image (λ x. IfSome M.image (IsBlockPut block x))) where
  pub behind-moments : LeavesOnly M V (AreBeingNoted ended) → LeavesOnly U V (AreBeingNotedBehind block ended)
  behind-moments second =
      goes_on (first-on block ended first) second (λ x y c was is noting. inr (record { between = y; put = between-put block U M done x y was is; noting = noting }))

  pub behind-noted : IfSome M.image (λ y. IfSome V.image (AreNoted ended y)) → IfSome U.image (λ x. IfSome V.image (AreNotedBehind block ended x))
  behind-noted second =
      through U.image M.image V.image (IsBlockPut block) (AreNoted ended) (AreNotedBehind block ended) first.tells done second (λ x y z was put noted. record { between = y; put = put; noted = noted })

-- a block that ends late enough has a time
pub late-block : (o : Option Block) (end : ℕ) → IfSome o (λ b. b.time + 60 ≡ end) → 60 < end → IfSome o (λ b. 0 < b.time)
late-block None end is late = tt
late-block (Some b) end is late = omega (arith, is, late)

-- ---- and the unit carries it

pub put-carries : (block : Option Block) (failed : Bool) (U V : State) → IsCoherent U → IsCoherent V → IfSome block (λ b. length b.speeds ≡ 60) → LeavesOnly U V (IsPuttingBlock block) → V.works ≡ not failed →
    (failed ≡ false → IfSome U.image (λ x. IfSome V.image (IsBlockPut block x))) → CarriesBlock block failed U V
put-carries None failed U V before after sixty run works done = carries-none U V failed (leaves-moments U V (IsPuttingBlock None) before run (λ x c same. same-speeds x c same))
put-carries (Some b) failed U V before after sixty run works done = carries-added U V before after b sixty failed run works done
