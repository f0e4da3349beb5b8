use Rattle.std.proofs.Common.{rules, ◌↔◌, arith, IsTrue}
use Rattle.std.proofs.lemmas.Grind.{common_steps}
use Rattle.netlink_packet_core.specs.declared.payload.NetlinkPayload.{NetlinkPayload}
use Rattle.netlink_packet_core.specs.declared.payload.NetlinkPayload.TheVariants.{Done, Error, Noop, Overrun, InnerMessage}
use Rattle.netlink_packet_core.specs.Frame.{SamePayload}
use Rattle.netlink_packet_core.specs.Payload.{InnerInRange}
use Rattle.netlink_packet_core.specs.contracts.payload.NetlinkPayloadPartialEq.TheImpl
use Rattle.netlink_packet_core.proofs.Once.{headers_and, and_headers}
use Rattle.netlink_packet_core.proofs.laws.messages_equal.Given
use Rattle.netlink_packet_core.proofs.laws.messages_equal.Goals as goal

same : (g : Given.Over) (x y : NetlinkPayload g.row.I.Denot) → InnerInRange g.I.NetlinkDeserializable.decoding x
    → InnerInRange g.I.NetlinkDeserializable.decoding y
    → IsTrue ((TheImpl.ghosts g.row.I g.I.PartialEq g.I.PartialEq-dict).eq x y) ↔ SamePayload g.I.NetlinkDeserializable.decoding x y
same g (Done a) (Done b) i j = (λ t. search (rules, common_steps), λ e. search (rules, common_steps))
same g (Error a) (Error b) i j = (λ t. search (rules, common_steps), λ e. search (rules, common_steps))
same g Noop Noop i j = (λ t. tt, λ e. search (rules, common_steps))
same g (Overrun a) (Overrun b) i j = (λ t. search (rules, common_steps), λ e. search (rules, common_steps))
same g (InnerMessage a) (InnerMessage b) i j = g.met.I.NetlinkProtocol.equal_pairs a b i j
same g _ _ i j = (λ t. grind (arith, common_steps), λ e. absurd e)

pub returns-clause-payload : goal.returns-clause-payload
returns-clause-payload g c = same g

pub returns-clause-message : goal.returns-clause-message
returns-clause-message g c a b i j =
    let payload = same g a.payload b.payload i j in (
      λ t. let both = and_headers _ a.header b.header t in (both.0, payload.0 both.1),
      λ e. headers_and _ a.header b.header e.0 (payload.1 e.1),
    )
