-- What a step answers.
use Rattle.std.proofs.Common.{◌≡◌, ℕ, Bool, true, false, ◌||◌, List, Option, IfOk, Result, Ok, Err, refl, sym, ◌∙◌, ap}
use Rattle.std.specs.Prelude.{IfErr}
use Rattle.std.proofs.lemmas.Result.{IfOk-weaker}
use Rattle.link_model.specs.declared.request.Request.{Request}
use Rattle.link_model.specs.Answers.{sends_on}
use Rattle.link_frames.specs.declared.sending.Reply.{Reply as CodeReply}
use Rattle.link_frames.specs.declared.standing.Standing.{Standing}
use Rattle.link_frames.specs.declared.step.Step.{Step}
use Rattle.link_frames.specs.declared.step.Step.TheVariants.{Begin, Piece}
use Rattle.link_frames.specs.Steps.{state_of, begins, performed}
use Rattle.link_frames.specs.Sending.{reply_of}
use Rattle.link_session.specs.declared.asking.AnswerFault.{AnswerFault}

pub not_asked : (was asked : Bool) → asked ≡ false → was ≡ (was || asked)
not_asked true asked is = refl
not_asked false asked is = sym is

pub now_judged : (was asked : Bool) → asked ≡ true → true ≡ (was || asked)
now_judged true asked is = refl
now_judged false asked is = sym is

pub if_err : {A E : Type 0} {P : E → Type 0} (r : Result A E) → ((e : E) → P e) → IfErr r P
if_err (Ok a) p = tt
if_err (Err e) p = p e

-- a reply of a step is one by some messages
pub begun_possibly : (r : Result CodeReply AnswerFault) (step : Step) (request : Request) (next : Standing) → step ≡ Begin request next
    → IfOk r (λ reply. (content : Option (List ℕ)) × (reply_of reply ≡ begins (state_of next) request content))
    → IfOk r (λ reply. (messages : Request → Option (List ℕ)) × (reply_of reply ≡ performed messages step))
begun_possibly r step request next is possible = IfOk-weaker r _ _ (λ reply p. ((λ q. p.0), p.1 ∙ ap (λ (s : Step). performed (λ q. p.0) s) (sym is))) possible

pub sent_possibly : (r : Result CodeReply AnswerFault) (step : Step) (request : Request) (counter code : ℕ) → step ≡ Piece request counter code
    → IfOk r (λ reply. (content : Option (List ℕ)) × (reply_of reply ≡ sends_on request counter content code))
    → IfOk r (λ reply. (messages : Request → Option (List ℕ)) × (reply_of reply ≡ performed messages step))
sent_possibly r step request counter code is possible = IfOk-weaker r _ _ (λ reply p. ((λ q. p.0), p.1 ∙ ap (λ (s : Step). performed (λ q. p.0) s) (sym is))) possible
