-- A talk of both sides over a link that keeps all is a run of their tables.
use Rattle.std.proofs.Common.{◌≡◌, ◌∙◌, ℕ, List, [], ◌∷◌, ◌++◌, Option, Some, refl, ap, subst, append_assoc, append-nil}
use Rattle.link_model.specs.Frames.{Right}
use Rattle.link_model.specs.Answers.{LinkState, Idle, answered}
use Rattle.message_model.specs.Sending.{content_sent}
use Rattle.link_session.specs.Told.{SessionView, fresh}
use Rattle.link_loader.specs.Loading.{Loading, Load, begun}
use Rattle.link_loader.specs.Talking.{Talk, fresh_talk}
use Rattle.unit_download.specs.declared.wire.Passed.{Passed}
use Rattle.unit_download.specs.Wires.{of_loader, of_unit, talk_of, Exchanged, Runs}
use Rattle.noisy_model.specs.Ends.{Taken}
use Rattle.noisy_model.specs.Worlds.{Talks, Answered}
use Rattle.noisy_link.specs.Sides.{IsReply, asked, Loads, download_sides, puts_of, state_after}

-- a run of both tables from one talk to another
pub record IsRun (image : Option (List ℕ)) (old new : Talk) : Type 0 where
  pub wire : List Passed
  pub runs : Runs image wire old new

abbrev pub at : SessionView → Load → List ℕ → Talk
at u l out = talk_of u.state l.loading out

pub stays : (u : SessionView) (l : Load) (out : List ℕ) (v : SessionView) (m : Load) → v ≡ u → m ≡ l → at v m (out ++ []) ≡ at u l out
stays u l out v m same also =
    ap (λ (w : SessionView). at w m (out ++ [])) same ∙ ap (λ (k : Load). at u k (out ++ [])) also ∙ ap (λ (o : List ℕ). at u l o) (append-nil out)

module _ (image : Option (List ℕ)) where
  -- an exchange
  pub exchanged : (u : SessionView) (l : Load) (t : Taken) (out request : List ℕ) (next : SessionView) (after : Load) → asked l ≡ Some request → IsReply image u request (Some t.frame) next → Loads l t.frame after t.put
      → Exchanged image (at u l out) (of_loader request) (of_unit t.frame) (at next after (out ++ t.put))
  exchanged u l t out request next after asks reply takes =
      record { by_loader = refl; sends = asks; by_unit = refl; answers = reply.replies; put = t.put; takes = takes; puts = refl }

  pub is_run : (u : SessionView) (l : Load) (took : List Taken) (v : SessionView) (m : Load) (out : List ℕ) → Talks (download_sides image) u l took v m → IsRun image (at u l out) (at v m (out ++ puts_of took))
  is_run u l [] v m out talks = record { wire = []; runs = stays u l out v m talks.0 talks.1 }
  is_run u l (t ∷ took) v m out talks =
      let next = is_run talks.1 talks.2 took v m (out ++ t.put) talks.6 in
      let mid : Talk = at talks.1 talks.2 (out ++ t.put) in
      let exchange = exchanged u l t out talks.0 talks.1 talks.2 talks.3 talks.4 talks.5 in
      record {
        wire = of_loader talks.0 ∷ of_unit t.frame ∷ next.wire;
        runs = (mid, exchange, subst (λ (o : List ℕ). Runs image next.wire mid (at v m o)) (append_assoc out t.put (puts_of took)) next.runs);
      }

  -- from the beginning
  pub from_fresh : (load : Load) (took : List Taken) (v : SessionView) (m : Load) → load.loading ≡ begun → Talks (download_sides image) (fresh Idle) load took v m → IsRun image fresh_talk (at v m (puts_of took))
  from_fresh load took v m begins talks =
      let run = is_run (fresh Idle) load took v m [] talks in
      record { wire = run.wire; runs = subst (λ (l : Loading). Runs image run.wire (talk_of Idle l []) (at v m (puts_of took))) begins run.runs }

-- a session that answered these requests stands where its table does
pub stands : (x : List ℕ) (u : SessionView) (requests : List (List ℕ)) (v : SessionView) → Answered (IsReply (Some x)) u requests v → v.state ≡ state_after (content_sent x) u.state requests
stands x u [] v is = ap (λ (w : SessionView). w.state) is
stands x u (request ∷ requests) v is =
    let one : is.1.state ≡ (answered (content_sent x) u.state (Right request)).state = ap (λ r. r.state) is.2.replies in
    stands x is.1 requests v is.3 ∙ ap (λ (s : LinkState). state_after (content_sent x) s requests) one
