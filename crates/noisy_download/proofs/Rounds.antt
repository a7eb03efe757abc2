-- One event after another.
use Rattle.std.proofs.Common.{◌≡◌, ◌∙◌, ℕ, ◌≤◌, Bool, false, List, [], Option, IfSome, Result, Err, refl, sym, ap, subst}
use Rattle.std.specs.Prelude.{IsErrAnd, is_none}
use Rattle.std.proofs.KnownBytes.{Appends-nil}
use Rattle.card_layout.specs.Fields.{IsBytes}
use Rattle.tach_media.proofs.Runs.{err_is}
use Rattle.unit_memory.proofs.Told.{told_all}
use Rattle.unit_messages.specs.declared.joining.TheConstants.{LONGEST}
use Rattle.link_model.specs.Answers.{Idle}
use Rattle.link_session.specs.Told.{SessionView, fresh}
use Rattle.link_loader.specs.Stages.{sent_at}
use Rattle.link_loader.specs.Loading.{Loading, Load, begun}
use Rattle.unit_download.specs.declared.wire.Passed.{Passed}
use Rattle.unit_download.specs.declared.fault.DownloadFault.{DownloadFault}
use Rattle.unit_download.specs.declared.fault.DownloadFault.TheVariants.{Memory}
use Rattle.unit_download.proofs.Talking.{fresh_knows, nothing_began}
use Rattle.noisy_model.specs.Worlds.{World, fresh_world}
use Rattle.noisy_link.specs.Sides.{Sized, is_over}
use Rattle.noisy_download.specs.Listing.{IsUnderway, DownloadGoesOn}
use Rattle.unit_download.specs.Ending.{IsDownloaded}

-- nothing has happened
pub underway_none : (image held : Option (List ℕ)) (w : World SessionView Load) (wire : List Passed) → (load : Load) × (load.loading ≡ begun) × (LONGEST ≤ load.room) × (w ≡ fresh_world (fresh Idle) load) → wire ≡ [] → Sized image → IfSome image IsBytes → IsUnderway image held w false wire held
underway_none image held w wire (load, begins, room, is) none sized bytes =
    subst (λ (x : World SessionView Load). IsUnderway image held x false wire held) (sym is)
    (record {
      load = load;
      begins = begins;
      events = [];
      took = [];
      exchanges = [];
      passes = (refl, refl);
      put = Appends-nil held;
      lists = (none, record { none = tt; waits = refl });
      knows = told_all image _ (λ x told. fresh_knows Idle x);
      room = room;
      sized = sized;
      bytes = bytes;
    })

module _ (held : Option (List ℕ)) (w : World SessionView Load) (listed : Bool) (wire : List Passed) (sunk : Option (List ℕ)) where
  -- the unit tells the same image
  pub underway_at : (i j : Option (List ℕ)) → j ≡ i → IsUnderway i held w listed wire sunk → IsUnderway j held w listed wire sunk
  underway_at i j same u = subst (λ (o : Option (List ℕ)). IsUnderway o held w listed wire sunk) (sym same) u

  pub goes_at : (r : Result (Unit {0}) DownloadFault) (i j : Option (List ℕ)) → j ≡ i → DownloadGoesOn r j held w listed wire sunk → DownloadGoesOn r i held w listed wire sunk
  goes_at r i j same g = subst (λ (o : Option (List ℕ)). DownloadGoesOn r o held w listed wire sunk) same g

  -- a fault that was passed on
  pub goes_passed : (r : Result (Unit {0}) DownloadFault) (fault : DownloadFault) (image : Option (List ℕ)) → IsErrAnd r (λ v. v ≡ fault) → IsDownloaded (Err fault) image wire held sunk → DownloadGoesOn r image held w listed wire sunk
  goes_passed r fault image is d = subst (λ (q : Result (Unit {0}) DownloadFault). DownloadGoesOn q image held w listed wire sunk) (sym (err_is r fault is)) d

pub downloaded_passed : (r : Result (Unit {0}) DownloadFault) (fault : DownloadFault) (image held sunk : Option (List ℕ)) (wire : List Passed) → IsErrAnd r (λ v. v ≡ fault) → IsDownloaded (Err fault) image wire held sunk → IsDownloaded r image wire held sunk
downloaded_passed r fault image held sunk wire is d = subst (λ (q : Result (Unit {0}) DownloadFault). IsDownloaded q image wire held sunk) (sym (err_is r fault is)) d

pub downloaded_at : (r : Result (Unit {0}) DownloadFault) (i j held sunk : Option (List ℕ)) (wire : List Passed) → j ≡ i → IsDownloaded r j wire held sunk → IsDownloaded r i wire held sunk
downloaded_at r i j held sunk wire same d = subst (λ (o : Option (List ℕ)). IsDownloaded r o wire held sunk) same d

-- it is not over where nothing has happened
pub fresh_going : (w : World SessionView Load) → (load : Load) × (load.loading ≡ begun) × (LONGEST ≤ load.room) × (w ≡ fresh_world (fresh Idle) load) → is_over w.loader.side ≡ false
fresh_going w (load, begins, room, is) = ap (λ (x : World SessionView Load). is_over x.loader.side) is ∙ ap (λ (l : Loading). is_none (sent_at l.stage)) begins

-- memory ran out before the first request
pub nothing_first : (r : Result (Unit {0}) DownloadFault) (image held : Option (List ℕ)) (wire : List Passed) → IsErrAnd r (λ v. v ≡ Memory) → wire ≡ [] → IsDownloaded r image wire held held
nothing_first r image held wire is none =
    downloaded_passed r Memory image held held wire is
    (record {
      downloaded = nothing_began {T = Unit {0}} (Err Memory) image held wire refl none;
      file = tt;
      front = told_all image _ (λ x told. (0, Appends-nil held));
      changed = λ same. absurd (cc);
      bad = tt;
      nothing = tt;
    })
