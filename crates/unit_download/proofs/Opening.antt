-- The first exchanges, which ask nothing of the unit.
use Rattle.std.proofs.Common.{◌≡◌, ◌∙◌, ℕ, Bool, true, false, List, [], ◌∷◌, ◌++◌, Option, Some, None, refl, ap, sym, subst, inl, inr}
use Rattle.std.specs.Prelude.{◌⊎◌, ◌||◌}
use Rattle.link_model.specs.declared.request.Request.{Request}
use Rattle.link_model.specs.declared.request.Request.TheVariants.{Overview}
use Rattle.link_model.specs.Frames.{Right}
use Rattle.link_model.specs.declared.services.TheConstants.{UPLOAD_REQUEST}
use Rattle.link_model.specs.Answers.{LinkState, Reply, answers, answered}
use Rattle.link_model.specs.Answers as states
use Rattle.message_model.specs.Sending.{content_sent}
use Rattle.link_frames.specs.Asking.{asks_unit}
use Rattle.link_loader.specs.declared.stage.Stage.TheVariants.{Diagnostic, Upload, Asked, Finished}
use Rattle.link_loader.specs.declared.kind.Kind.TheVariants.{Agreed}
use Rattle.link_loader.specs.Stages.{sent_at}
use Rattle.link_loader.specs.Coming.{kind_of}
use Rattle.link_loader.specs.Loading.{Loading, at_stage, goes_on, Takes}
use Rattle.link_loader.specs.Talking.{Talk, fresh_talk}
use Rattle.link_loader.proofs.OneWay.{taken_in_one_way}
use Rattle.unit_download.specs.declared.wire.Passed.{Passed}
use Rattle.unit_download.specs.Wires.{talk_of, Replies, Exchanged}

-- where both stand behind the start of communication, behind the diagnostic service, and behind the upload was allowed
abbrev pub diagnosing : Talk
diagnosing = talk_of states.Started (at_stage 0 Diagnostic) []

abbrev pub uploading : Talk
uploading = talk_of states.Diagnostic (at_stage 0 Upload) []

abbrev pub asking : Talk
asking = talk_of states.Upload (at_stage 0 (Asked Overview)) []

-- nothing was asked of the unit, nor is by the next frame
abbrev pub Opens : Talk → Type 0
Opens talk = (talk ≡ fresh_talk) ⊎ ((talk ≡ diagnosing) ⊎ (talk ≡ uploading))

-- nothing was asked of the unit
abbrev pub Begins : Talk → Type 0
Begins talk = Opens talk ⊎ (talk ≡ asking)

pub nothing_out : (talk : Talk) → Begins talk → talk.out ≡ []
nothing_out talk (inl (inl is)) = ap (λ (t : Talk). t.out) is
nothing_out talk (inl (inr (inl is))) = ap (λ (t : Talk). t.out) is
nothing_out talk (inl (inr (inr is))) = ap (λ (t : Talk). t.out) is
nothing_out talk (inr is) = ap (λ (t : Talk). t.out) is

pub not_finished : (talk : Talk) → Begins talk → talk.loader.stage ≡ Finished → ⊥
not_finished talk (inl (inl is)) over = let stage = ap (λ (t : Talk). t.loader.stage) is in absurd (cc)
not_finished talk (inl (inr (inl is))) over = let stage = ap (λ (t : Talk). t.loader.stage) is in absurd (cc)
not_finished talk (inl (inr (inr is))) over = let stage = ap (λ (t : Talk). t.loader.stage) is in absurd (cc)
not_finished talk (inr is) over = let stage = ap (λ (t : Talk). t.loader.stage) is in absurd (cc)

-- the unit answers, and the loader goes on
pub record Opened (talk : Talk) (reply : Reply) : Type 0 where
  pub frame : List ℕ
  pub next : LinkState
  pub loader : Loading
  pub reply_is : reply ≡ answers frame next
  pub agreed : kind_of talk.loader.stage frame ≡ Agreed
  pub goes : goes_on talk.loader frame ≡ Some loader
  pub begins : Begins (talk_of next loader [])
  pub none : talk.out ≡ []

-- an answer that hangs on no message
replied : (image : Option (List ℕ)) (state : LinkState) (sent : List ℕ) (reply next : Reply) → Replies image state sent reply → ((messages : Request → Option (List ℕ)) → answered messages state (Right sent) ≡ next) → reply ≡ next
replied (Some x) state sent reply next is all = is ∙ all (content_sent x)
replied None state sent reply next is all = is.1 ∙ all is.0

one_sent : (a b : List ℕ) → Some a ≡ Some b → a ≡ b
one_sent a b e = cc

module _ (image : Option (List ℕ)) (sent : List ℕ) (reply : Reply) where
  at_start : Some (0x81 ∷ []) ≡ Some sent → Replies image states.Idle sent reply → Opened fresh_talk reply
  at_start sends replies =
      let same = one_sent (0x81 ∷ []) sent sends in
      record {
        frame = 0xC1 ∷ 0xEA ∷ 0x8F ∷ [];
        next = states.Started;
        loader = at_stage 0 Diagnostic;
        reply_is = replied image states.Idle (0x81 ∷ []) reply (answers (0xC1 ∷ 0xEA ∷ 0x8F ∷ []) states.Started) (subst (λ (s : List ℕ). Replies image states.Idle s reply) (sym same) replies) (λ messages. refl);
        agreed = refl;
        goes = refl;
        begins = inl (inr (inl refl));
        none = refl;
      }

  at_diagnostic : Some (0x10 ∷ 0x81 ∷ []) ≡ Some sent → Replies image states.Started sent reply → Opened diagnosing reply
  at_diagnostic sends replies =
      let same = one_sent (0x10 ∷ 0x81 ∷ []) sent sends in
      record {
        frame = 0x50 ∷ 0x81 ∷ [];
        next = states.Diagnostic;
        loader = at_stage 0 Upload;
        reply_is = replied image states.Started (0x10 ∷ 0x81 ∷ []) reply (answers (0x50 ∷ 0x81 ∷ []) states.Diagnostic) (subst (λ (s : List ℕ). Replies image states.Started s reply) (sym same) replies) (λ messages. refl);
        agreed = refl;
        goes = refl;
        begins = inl (inr (inr refl));
        none = refl;
      }

  at_upload : Some UPLOAD_REQUEST ≡ Some sent → Replies image states.Diagnostic sent reply → Opened uploading reply
  at_upload sends replies =
      let same = one_sent UPLOAD_REQUEST sent sends in
      record {
        frame = 0x75 ∷ 0x00 ∷ 0xFF ∷ [];
        next = states.Upload;
        loader = at_stage 0 (Asked Overview);
        reply_is = replied image states.Diagnostic UPLOAD_REQUEST reply (answers (0x75 ∷ 0x00 ∷ 0xFF ∷ []) states.Upload) (subst (λ (s : List ℕ). Replies image states.Diagnostic s reply) (sym same) replies) (λ messages. refl);
        agreed = refl;
        goes = refl;
        begins = inr refl;
        none = refl;
      }

  -- what is said of a talk, of the one that it is
  moved : (talk at : Talk) → talk ≡ at → sent_at talk.loader.stage ≡ Some sent → Replies image talk.unit sent reply → (sent_at at.loader.stage ≡ Some sent → Replies image at.unit sent reply → Opened at reply) → Opened talk reply
  moved talk at is sends replies there =
      subst (λ (t : Talk). Opened t reply) (sym is)
      (there (subst (λ (t : Talk). sent_at t.loader.stage ≡ Some sent) is sends) (subst (λ (t : Talk). Replies image t.unit sent reply) is replies))

  pub opened : (talk : Talk) → Opens talk → sent_at talk.loader.stage ≡ Some sent → Replies image talk.unit sent reply → Opened talk reply
  opened talk (inl is) sends replies = moved talk fresh_talk is sends replies at_start
  opened talk (inr (inl is)) sends replies = moved talk diagnosing is sends replies at_diagnostic
  opened talk (inr (inr is)) sends replies = moved talk uploading is sends replies at_upload

talk_is : (new : Talk) (unit : LinkState) (loader : Loading) (out : List ℕ) → new.unit ≡ unit → new.loader ≡ loader → new.out ≡ out → new ≡ talk_of unit loader out
talk_is new unit loader out u l o = ap (λ (v : LinkState). talk_of v new.loader new.out) u ∙ ap (λ (v : Loading). talk_of unit v new.out) l ∙ ap (λ (v : List ℕ). talk_of unit loader v) o

-- behind such an exchange
pub begins_next : (image : Option (List ℕ)) (talk new : Talk) (p q : Passed) → Opens talk → Exchanged image talk p q new → Begins new
begins_next image talk new p q opens e =
    let o = opened image p.frame (record { answer = Some q.frame; state = new.unit }) talk opens e.sends e.answers in
    let frames : q.frame ≡ o.frame = one_sent q.frame o.frame (ap (λ (r : Reply). r.answer) o.reply_is) in
    let taken = taken_in_one_way talk.loader new.loader o.loader o.frame e.put [] (subst (λ (f : List ℕ). Takes talk.loader f new.loader e.put) frames e.takes) (inl (o.goes, refl)) in
    let outs : new.out ≡ [] = e.puts ∙ ap (λ (l : List ℕ). l ++ e.put) o.none ∙ taken.1 in
    subst Begins (sym (talk_is new o.next o.loader [] (ap (λ (r : Reply). r.state) o.reply_is) taken.0 outs)) o.begins

-- once the unit was asked it is judged
or_true : (b : Bool) → (b || true) ≡ true
or_true true = refl
or_true false = refl

-- the request of the overview asks the unit
pub asks_there : (talk : Talk) (sent : List ℕ) → talk ≡ asking → sent_at talk.loader.stage ≡ Some sent → asks_unit talk.unit (Right sent) ≡ true
asks_there talk sent at sends =
    let same = one_sent (0x36 ∷ 1 ∷ []) sent (subst (λ (t : Talk). sent_at t.loader.stage ≡ Some sent) at sends) in
    ap (λ (t : Talk). asks_unit t.unit (Right sent)) at ∙ ap (λ (s : List ℕ). asks_unit states.Upload (Right s)) (sym same)

pub judged_next : (before after : Bool) (talk : Talk) (sent : List ℕ) → (before ≡ true) ⊎ Begins talk → sent_at talk.loader.stage ≡ Some sent → after ≡ (before || asks_unit talk.unit (Right sent)) → (after ≡ true) ⊎ Opens talk
judged_next before after talk sent (inl was) sends is = inl (is ∙ ap (λ (b : Bool). b || asks_unit talk.unit (Right sent)) was)
judged_next before after talk sent (inr (inl opens)) sends is = inr opens
judged_next before after talk sent (inr (inr at)) sends is = inl (is ∙ ap (λ (b : Bool). before || b) (asks_there talk sent at sends) ∙ or_true before)
