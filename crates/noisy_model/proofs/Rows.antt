-- Worked rows: packets as bytes, and a link that repeats and delays.
use Rattle.std.proofs.Common.{◌≡◌, ℕ, zero, suc, List, [], ◌∷◌, replicate, Option, Some, None, refl}
use Rattle.link_model.specs.Frames.{Right}
use Rattle.link_model.specs.Answers.{LinkState, Idle, Started, Diagnostic, Reply, answered}
use Rattle.noisy_model.specs.declared.packet.Packet.{Packet}
use Rattle.noisy_model.specs.declared.event.Event.{Event}
use Rattle.noisy_model.specs.declared.event.Event.TheVariants.{Send, ToUnit, ToLoader}
use Rattle.noisy_model.specs.Ends.{Sides, packet}
use Rattle.noisy_model.specs.Worlds.{World, fresh_world, Passes}
use Rattle.noisy_model.specs.Packets.{packet_bytes, packet_in, number_bytes, number_in}

-- the start of communication with number 1
start_spelled : packet_bytes (packet 1 (Some (0x81 ∷ []))) ≡ 0x4E ∷ 0 ∷ 0 ∷ 0 ∷ 0 ∷ 0 ∷ 0 ∷ 0 ∷ 1 ∷ 0x81 ∷ []
unfolding number_bytes number_in
start_spelled = refl

start_read : packet_in (0x4E ∷ 0 ∷ 0 ∷ 0 ∷ 0 ∷ 0 ∷ 0 ∷ 1 ∷ 2 ∷ 0x81 ∷ []) ≡ Some (packet 258 (Some (0x81 ∷ [])))
unfolding number_bytes number_in
start_read = refl

-- nine bytes are a packet without a frame; eight, another first byte, and more than 264 bytes are none
none_read : packet_in (0x4E ∷ replicate 8 0) ≡ Some (packet 0 None)
unfolding number_bytes number_in
none_read = refl

short_refused : packet_in (0x4E ∷ replicate 7 0) ≡ None
short_refused = refl

other_refused : packet_in (0x4F ∷ replicate 9 0) ≡ None
other_refused = refl

long_refused : packet_in (0x4E ∷ replicate 264 0) ≡ None
long_refused = refl

-- A loader that asks for communication, then for diagnostics, and a unit that answers by its table.
abbrev asks : ℕ → Option (List ℕ)
asks zero = Some (0x81 ∷ [])
asks (suc n) = Some (0x10 ∷ 0x81 ∷ [])

abbrev reply : Option (List ℕ) → LinkState → Reply
reply answer state = record { answer = answer; state = state }

abbrev two : Sides LinkState ℕ
two = record {
  asks = asks;
  Answers = λ old request answer new. reply answer new ≡ answered (λ r. None) old (Right request);
  Takes = λ old frame new put. (new ≡ 1) × (put ≡ []);
}

abbrev begun : List ℕ
begun = 0xC1 ∷ 0xEA ∷ 0x8F ∷ []

abbrev first : Packet
first = packet 1 (Some (0x81 ∷ []))

abbrev second : Packet
second = packet 2 (Some (0x10 ∷ 0x81 ∷ []))

abbrev answer_first : Packet
answer_first = packet 1 (Some begun)

-- the start is sent twice and comes twice, its answers come in the other order, the next request is sent, and the start comes again
abbrev events : List Event
events = Send ∷ Send ∷ ToUnit 0 ∷ ToUnit 1 ∷ ToLoader 1 ∷ ToLoader 0 ∷ Send ∷ ToUnit 0 ∷ ToUnit 2 ∷ []

abbrev world : List Packet → List Packet → (last : ℕ) → Option (List ℕ) → LinkState → (number side : ℕ) → World LinkState ℕ
world sent answers last kept unit number side =
    record { sent = sent; answers = answers; unit = record { last = last; kept = kept; side = unit }; loader = record { number = number; side = side } }

-- four answers: to the start three times, and to the request of diagnostics; one was taken
delays : Passes two (fresh_world Idle 0) events
    (world (first ∷ first ∷ second ∷ []) (answer_first ∷ answer_first ∷ answer_first ∷ packet 2 (Some (0x50 ∷ 0x81 ∷ [])) ∷ []) 2 (Some (0x50 ∷ 0x81 ∷ [])) Diagnostic 2 1)
    (record { frame = begun; put = [] } ∷ [])
delays = (
  world (first ∷ []) [] 0 None Idle 1 0,
  [],
  record { frame = begun; put = [] } ∷ [],
  (refl, refl, refl, refl, refl),
  (
    world (first ∷ first ∷ []) [] 0 None Idle 1 0,
    [],
    record { frame = begun; put = [] } ∷ [],
    (refl, refl, refl, refl, refl),
    (
      world (first ∷ first ∷ []) (answer_first ∷ []) 1 (Some begun) Started 1 0,
      [],
      record { frame = begun; put = [] } ∷ [],
      ((Some answer_first, (refl, refl, refl), refl, refl, refl), refl),
      (
        world (first ∷ first ∷ []) (answer_first ∷ answer_first ∷ []) 1 (Some begun) Started 1 0,
        [],
        record { frame = begun; put = [] } ∷ [],
        ((Some answer_first, (refl, refl), refl, refl, refl), refl),
        (
          world (first ∷ first ∷ []) (answer_first ∷ answer_first ∷ []) 1 (Some begun) Started 2 1,
          record { frame = begun; put = [] } ∷ [],
          [],
          (([], (refl, refl), refl, refl), refl, refl, refl),
          (
            world (first ∷ first ∷ []) (answer_first ∷ answer_first ∷ []) 1 (Some begun) Started 2 1,
            [],
            [],
            ((refl, refl), refl, refl, refl),
            (
              world (first ∷ first ∷ second ∷ []) (answer_first ∷ answer_first ∷ []) 1 (Some begun) Started 2 1,
              [],
              [],
              (refl, refl, refl, refl, refl),
              (
                world (first ∷ first ∷ second ∷ []) (answer_first ∷ answer_first ∷ answer_first ∷ []) 1 (Some begun) Started 2 1,
                [],
                [],
                ((Some answer_first, (refl, refl), refl, refl, refl), refl),
                (
                  world (first ∷ first ∷ second ∷ []) (answer_first ∷ answer_first ∷ answer_first ∷ packet 2 (Some (0x50 ∷ 0x81 ∷ [])) ∷ []) 2 (Some (0x50 ∷ 0x81 ∷ [])) Diagnostic 2 1,
                  [],
                  [],
                  ((Some (packet 2 (Some (0x50 ∷ 0x81 ∷ []))), (refl, refl, refl), refl, refl, refl), refl),
                  (refl, refl),
                  refl,
                ),
                refl,
              ),
              refl,
            ),
            refl,
          ),
          refl,
        ),
        refl,
      ),
      refl,
    ),
    refl,
  ),
  refl,
)
