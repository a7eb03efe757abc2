-- What more lines of a log say of the blocks of a run: some are not sure any more.
use Rattle.std.proofs.Common.{◌≡◌, ◌∙◌, ℕ, ◌+◌, Bool, true, false, Option, Some, None, IfSome, is_some, List, ◌++◌, refl, sym, ap, subst, arith}
use Rattle.std.specs.Prelude.{not, option_to_list}
use Rattle.trace_model.specs.Trace.{TraceSecond}
use Rattle.log_model.specs.Log.{RunLog}
use Rattle.unit_notes.specs.note_model.Done.{has_failed_in}
use Rattle.device_calls.specs.safety_model.Safe.{Devices}
use Rattle.run_events.specs.speed_model.declared.block.Block.{Block}
use Rattle.run_events.specs.run_speeds.Speeds.{HasSpeeds, LeavesSpeeds, CarriesBlock}
use Rattle.run_events.specs.run_speeds.Spans.{blocks_by, is_sure_block}
use Rattle.run_events.proofs.run_speeds.Blocks.{speeds-fewer}
use Rattle.run_events.proofs.run_speeds.Speeds.{speeds-on}
use Rattle.run_minutes.specs.run_promise.Origin.{Origin}
use Rattle.run_acts.specs.Speeds.{HasBlocks}

-- each failed call that a log tells of a later one tells too
abbrev pub FailsMore : (log later : RunLog) → Type 0
FailsMore log later = (u : ℕ) → has_failed_in log u ≡ true → has_failed_in later u ≡ true

is-true : (b : Bool) → not b ≡ false → b ≡ true
is-true true is = refl
is-true false is = absurd (cc)

pub less-sure : (log later : RunLog) → FailsMore log later → (b : Block) → is_sure_block log b ≡ false → is_sure_block later b ≡ false
less-sure log later more b is = ap not (more (b.time + 59) (is-true (has_failed_in log (b.time + 59)) is))

-- the block of a minute in whose last second a call has failed is not sure
pub unsure-here : (later : RunLog) (end : ℕ) (block : Option Block) → IfSome block (λ b. b.time + 60 ≡ end + 1) → has_failed_in later end ≡ true → IfSome block (λ b. is_sure_block later b ≡ false)
unsure-here later end None is failed = tt
unsure-here later end (Some b) is failed = let at : b.time + 59 ≡ end = omega (arith, is) in ap not (ap (has_failed_in later) at ∙ failed)

module _ (o : Origin) (log later : RunLog) (more : FailsMore log later) (done all : List TraceSecond) (d e : Devices) where
  -- calls that leave the detailed speed, in seconds that bring no block
  pub blocks-same : blocks_by later all ≡ blocks_by log done → LeavesSpeeds d.unit e.unit → HasBlocks o log done d → HasBlocks o later all e
  blocks-same are leaves h = λ ring.
      subst (λ (bs : List Block). HasSpeeds (is_sure_block later) o.recording.unit o.found.unit.began bs e.unit) (sym are)
      (speeds-on (is_sure_block later) o.recording.unit o.found.unit.began (blocks_by log done) d.unit e.unit
      (speeds-fewer (is_sure_block log) (is_sure_block later) (less-sure log later more) o.recording.unit o.found.unit.began (blocks_by log done) d.unit (h ring)) leaves)

  -- calls that carry a block, in seconds that bring it
  pub blocks-more : (block : Option Block) (failed : Bool) → blocks_by later all ≡ blocks_by log done ++ option_to_list block → is_some d.unit.image ≡ true → (failed ≡ true → IfSome block (λ b. is_sure_block later b ≡ false)) →
      CarriesBlock block failed d.unit e.unit → HasBlocks o log done d → HasBlocks o later all e
  blocks-more block failed are tells unsure c h = λ ring.
      subst (λ (bs : List Block). HasSpeeds (is_sure_block later) o.recording.unit o.found.unit.began bs e.unit) (sym are)
      (c.carries tells (is_sure_block later) o.recording.unit o.found.unit.began (blocks_by log done) unsure
      (speeds-fewer (is_sure_block log) (is_sure_block later) (less-sure log later more) o.recording.unit o.found.unit.began (blocks_by log done) d.unit (h ring)))
