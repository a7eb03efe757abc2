-- A command that comes after a read of the medium.
use Rattle.std.proofs.Common.{◌≡◌, ℕ, ◌/◌, ◌%◌, Bool, true, false, List, [], ◌∷◌, ◌++◌, Option, option_map, Result, refl, ◌∙◌, ap, subst, arith}
use Rattle.tach_media.specs.Medium.{State, Reads, Rose, put}
use Rattle.card_layout.specs.Outcomes.{Effect, nothing, gives, puts, IsAnswered, outcome_from}
use Rattle.tach_media.specs.Chip.{Does}
use Rattle.card_layout.specs.Commands.{command_of}
use Rattle.card_layout.specs.declared.command.CardState.{CardState}
use Rattle.card_layout.specs.declared.command.Command.{Command}
use Rattle.tach_media.proofs.Runs.{weaken, after_reads, reads_then, cause_after}
use Rattle.card_commands.specs.Performing.{IsPerformed}

-- a read that failed, whatever was to come
pub fails_at_once : (effect : Effect) (old new : State) → Reads old new true → Does effect old new true
fails_at_once nothing old new reads = reads
fails_at_once (gives file offset len) old new reads = reads
fails_at_once (puts place bytes) old new reads = record { written = λ no. absurd (cc); leaves = weaken reads.leaves (λ x c was none. absurd none); settled = λ no. absurd (cc); clock = λ no. absurd (cc); few = omega (arith, reads.clock); cause = reads.cause }

-- a read that went well, and then the command
pub goes_on_with : (effect : Effect) (old mid new : State) (failed : Bool) → Reads old mid false → Does effect mid new failed → Does effect old new failed
goes_on_with nothing old mid new failed reads does = reads_then reads does
goes_on_with (gives file offset len) old mid new failed reads does = reads_then reads does
goes_on_with (puts place bytes) old mid new failed reads does = record {
  written = λ fine. does.written fine ∙ ap (option_map (put place bytes)) (reads.same refl);
  leaves = after_reads reads.leaves (reads.same refl) does.leaves;
  settled = does.settled;
  clock = λ fine. subst (λ (n : ℕ). Rose n new.clock) reads.clock (does.clock fine);
  few = omega (arith, reads.clock, does.few);
  cause = cause_after reads.cause does.cause;
}

-- the answer to what was performed
pub answered : (b : List ℕ) (image : Option (List ℕ)) (before after : CardState) (given answer : List ℕ) (status : ℕ) → IsPerformed (command_of b) image before after given status → answer ≡ given ++ (status / 256 ∷ status % 256 ∷ []) → IsAnswered b image before after answer
answered b image before after given answer status done whole = record {
  sizes = done.sizes;
  state = done.state;
  given = given;
  given_is = done.given_is;
  whole = whole ∙ ap (λ (w : ℕ). given ++ (w / 256 ∷ w % 256 ∷ [])) done.status_is;
}

-- the same by equal names
pub does_same : (card card' : CardState) (read read' : Result Command ℕ) (s s' : State) (failed failed' : Bool) → card' ≡ card → read' ≡ read → failed ≡ failed' → Does (outcome_from card' read').effect s s' failed → Does (outcome_from card read).effect s s' failed'
does_same card card' read read' s s' failed failed' same_card same_read same_failed does =
    subst (λ (f : Bool). Does (outcome_from card read).effect s s' f) same_failed
    (subst (λ (k : CardState). Does (outcome_from k read).effect s s' failed) same_card
    (subst (λ (r : Result Command ℕ). Does (outcome_from card' r).effect s s' failed) same_read does))

pub performed_same : (card card' after : CardState) (read read' : Result Command ℕ) (image image' : Option (List ℕ)) (given : List ℕ) (status : ℕ) → card' ≡ card → read' ≡ read → image' ≡ image → IsPerformed read' image' card' after given status → IsPerformed read image card after given status
performed_same card card' after read read' image image' given status same_card same_read same_image done =
    subst (λ (i : Option (List ℕ)). IsPerformed read i card after given status) same_image
    (subst (λ (k : CardState). IsPerformed read image' k after given status) same_card
    (subst (λ (r : Result Command ℕ). IsPerformed r image' card' after given status) same_read done))
