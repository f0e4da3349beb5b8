-- Each command has at most one output and one error for an input, apart from the protocol's own
-- words.
use Rattle.std.proofs.Common.{◌≡◌, ◌++◌, List, [], ◌∷◌, ℕ, ℤ, ap, refl, sym, ◌∙◌, subst, inl, inr, arith, Option, Some, None}
use Rattle.std.specs.Prelude.{◌≢◌, false, codes}
use Rattle.std.specs.Fmt.{signed_decimal}
use Rattle.netlink_packet_core.specs.Attribute.{Attribute}
use Rattle.netlink_packet_core.specs.Block.{canonical_block}
use Rattle.netlink_packet_core.specs.Canonical.{Fits, IsNormalizeFault, canonical_frame}
use Rattle.netlink_packet_core.specs.DecodeError.{DecodeError}
use Rattle.netlink_packet_core.specs.DecodeError.TheVariants.{OutOfMemory}
use Rattle.netlink_packet_core.specs.Frame.{Frame, SamePayload}
use Rattle.netlink_packet_core.specs.Payload.{raw_code}
use Rattle.netlink_packet_core.specs.declared.header.NetlinkHeader.{NetlinkHeader}
use Rattle.netlink_packet_core.specs.declared.payload.NetlinkPayload.{NetlinkPayload}
use Rattle.netlink_packet_core.specs.declared.payload.NetlinkPayload.TheVariants.{Done, Error, Noop, Overrun, InnerMessage}
use Rattle.netlink_packet_core.specs.Refusal.{IsRefusal, SameRefusal}
use Rattle.netlink_packet_core.specs.Uniqueness.{Uniqueness}
use Rattle.netlink_packet_core.specs.Walk.{Walk}
use Rattle.netlink_packet_core.specs.declared.message.NetlinkMessage.{NetlinkMessage}
use Rattle.netlink_tree.specs.FrameWalk.{FrameWalk}
use Rattle.netlink_packet_core.specs.Header.{header_lines}
use Rattle.netlink_packet_core.specs.Text.{hex_text}
use Rattle.netlink_frame.specs.Lines.{frame_lines, inner_text, message_lines, nla_lines, payload_words}
use Rattle.netlink_frame.specs.PingPong.{ping_pong_decoding, ping_pong_encoding, wants_memory}
use Rattle.netlink_frame.specs.Run.{Makes, SameFault}
use Rattle.netlink_frame.specs.declared.command.Command.TheVariants.{Normalize, Show, Nlas, Canon, Frames}
use Rattle.netlink_frame.specs.declared.ping_pong.PingPongMessage.{PingPongMessage}
use Rattle.netlink_frame.specs.declared.ping_pong.PingPongMessage.TheVariants.{Ping, Pong}

abbrev pub IsFrame : List ℕ → NetlinkMessage PingPongMessage → Type 0
IsFrame = Frame ping_pong_decoding

abbrev pub IsRefused : List ℕ → DecodeError → Type 0
IsRefused = IsRefusal ping_pong_decoding wants_memory

-- the protocol has the uniqueness that the laws of `netlink_packet_core` state
abbrev pub IsUnique : Type 0
IsUnique = Uniqueness ping_pong_encoding ping_pong_decoding wants_memory

-- normalizing the frame of a message that fits fails only with `OutOfMemory`
no_fault : IsUnique → (bytes : List ℕ) (m : NetlinkMessage PingPongMessage) (e : DecodeError) → IsFrame bytes m
    → Fits ping_pong_encoding m → IsNormalizeFault ping_pong_encoding ping_pong_decoding wants_memory bytes e → e ≢ OutOfMemory → ⊥
no_fault unique bytes m e frame fits (inl refusal) known = known (unique.frame bytes m e frame refusal)
no_fault unique bytes m e frame fits (inr (inl (is, (n, other, long)))) known = let same = unique.fits bytes m n frame other fits in
    omega (arith, same.size)
no_fault unique bytes m e frame fits (inr (inr (memory, more))) known = known memory

fault_once : IsUnique → (bytes : List ℕ) (e f : DecodeError) → IsNormalizeFault ping_pong_encoding ping_pong_decoding wants_memory bytes e
    → IsNormalizeFault ping_pong_encoding ping_pong_decoding wants_memory bytes f → e ≢ OutOfMemory → f ≢ OutOfMemory → SameRefusal e f
fault_once unique bytes e f (inr (inr (memory, more))) q known known' = absurd (known memory)
fault_once unique bytes e f p (inr (inr (memory, more))) known known' = absurd (known' memory)
fault_once unique bytes e f (inl a) (inl b) known known' = unique.refusal bytes e f a b known known'
fault_once unique bytes e f (inl a) (inr (inl (is, (m, frame, long)))) known known' = absurd (known (unique.frame bytes m e frame a))
fault_once unique bytes e f (inr (inl (is, (m, frame, long)))) (inl b) known known' = absurd (known' (unique.frame bytes m f frame b))
fault_once unique bytes e f (inr (inl (is, more))) (inr (inl (is', more'))) known known' =
    inl (is ∙ sym is')

pub normalizes_once : IsUnique → (input first second : List ℕ) (e f : Option DecodeError) → Makes Normalize input first e
    → Makes Normalize input second f → (first ≡ second) × SameFault e f
unfolding Makes
normalizes_once unique input first second None None (m, frame, fits, is) (n, frame', fits', is') =
    (is ∙ unique.written input m n frame frame' ∙ sym is', tt)
normalizes_once unique input first second None (Some f) (m, frame, fits, is) (none, known, fault) =
    absurd (no_fault unique input m f frame fits fault known)
normalizes_once unique input first second (Some e) None (none, known, fault) (m, frame, fits, is) =
    absurd (no_fault unique input m e frame fits fault known)
normalizes_once unique input first second (Some e) (Some f) (none, known, fault) (none', known', fault') =
    (none ∙ sym none', fault_once unique input e f fault fault' known known')

-- bytes rejected with an error other than `OutOfMemory` do not begin with the frame of a message
no_refusal : IsUnique → (bytes : List ℕ) (m : NetlinkMessage PingPongMessage) (e : DecodeError) → IsFrame bytes m → IsRefused bytes e
    → e ≢ OutOfMemory → ⊥
no_refusal unique bytes m e frame refusal known = known (unique.frame bytes m e frame refusal)

inner_once : (v w : PingPongMessage) → ping_pong_decoding.stands_for v ≡ ping_pong_decoding.stands_for w → inner_text v ≡ inner_text w
inner_once (Ping a) (Ping b) same = ap (λ (t : List ℕ). codes "ping " ++ hex_text t) (ap (λ (p : ℕ × List ℕ). p.1) same)
inner_once (Pong a) (Pong b) same = ap (λ (t : List ℕ). codes "pong " ++ hex_text t) (ap (λ (p : ℕ × List ℕ). p.1) same)
inner_once (Ping a) (Pong b) same = absurd (omega (arith, ap (λ (p : ℕ × List ℕ). p.0) same))
inner_once (Pong a) (Ping b) same = absurd (omega (arith, ap (λ (p : ℕ × List ℕ). p.0) same))

-- payloads with the same content are printed identically
words_once : (x y : NetlinkPayload PingPongMessage) → SamePayload ping_pong_decoding x y → payload_words x ≡ payload_words y
words_once Noop Noop same = refl
words_once (Done m) (Done n) (code, bytes) =
    ap (λ (z : ℤ). codes "done " ++ (signed_decimal z ++ (codes " " ++ hex_text m.extended_ack.items))) code
    ∙ ap (λ (t : List ℕ). codes "done " ++ (signed_decimal n.code ++ (codes " " ++ hex_text t))) bytes
words_once (Error m) (Error n) (code, bytes) =
    ap (λ (z : ℤ). codes "error " ++ (signed_decimal z ++ (codes " " ++ hex_text m.header.items))) code
    ∙ ap (λ (t : List ℕ). codes "error " ++ (signed_decimal (raw_code n.code) ++ (codes " " ++ hex_text t))) bytes
words_once (Overrun a) (Overrun b) same = ap (λ (t : List ℕ). codes "overrun " ++ hex_text t) same
words_once (InnerMessage v) (InnerMessage w) same = inner_once v w same
words_once x y same = absurd same

message_once : (m n : NetlinkMessage PingPongMessage) → (m.header ≡ n.header) × SamePayload ping_pong_decoding m.payload n.payload
    → message_lines m ≡ message_lines n
message_once m n (header, payload) =
    ap (λ (h : NetlinkHeader). header_lines h ++ (codes "payload " ++ (payload_words m.payload ++ (10 ∷ [])))) header
    ∙ ap (λ (t : List ℕ). header_lines n.header ++ (codes "payload " ++ (t ++ (10 ∷ [])))) (words_once m.payload n.payload payload)

pub shows_once : IsUnique → (input first second : List ℕ) (e f : Option DecodeError) → Makes Show input first e
    → Makes Show input second f → (first ≡ second) × SameFault e f
unfolding Makes
shows_once unique input first second None None (m, frame, is) (n, frame', is') =
    (is ∙ message_once m n (unique.same input m n frame frame') ∙ sym is', tt)
shows_once unique input first second None (Some f) (m, frame, is) (none, known, fault) =
    absurd (no_refusal unique input m f frame fault known)
shows_once unique input first second (Some e) None (none, known, fault) (m, frame, is) =
    absurd (no_refusal unique input m e frame fault known)
shows_once unique input first second (Some e) (Some f) (none, known, fault) (none', known', fault') =
    (none ∙ sym none', unique.refusal input e f fault fault' known known')

-- bytes have at most one walk
abbrev pub WalkUnique : Type 0
WalkUnique = (bytes : List ℕ) (a b : List Attribute) (f g : Option DecodeError) → Walk bytes a f → Walk bytes b g → (a ≡ b) × (f ≡ g)

same_fault : (e f : Option DecodeError) → e ≡ f → SameFault e f
same_fault None None same = tt
same_fault (Some e) (Some f) same = inl cc
same_fault None (Some f) same = absurd cc
same_fault (Some e) None same = absurd cc

pub nlas_once : WalkUnique → (input first second : List ℕ) (e f : Option DecodeError) → Makes Nlas input first e → Makes Nlas input second f
    → (first ≡ second) × SameFault e f
unfolding Makes
nlas_once unique input first second e f (all, walk, is) (all', walk', is') =
    let same = unique input all all' e f walk walk' in
    (is ∙ ap nla_lines same.0 ∙ sym is', same_fault e f same.1)

pub canon_once : WalkUnique → (input first second : List ℕ) (e f : Option DecodeError) → Makes Canon input first e
    → Makes Canon input second f → (first ≡ second) × SameFault e f
unfolding Makes
canon_once unique input first second None None (all, walk, is) (all', walk', is') =
    (is ∙ ap canonical_block (unique input all all' None None walk walk').0 ∙ sym is', tt)
canon_once unique input first second None (Some f) (all, walk, is) (none, known, (all', walk')) =
    absurd (let same = (unique input all all' None (Some f) walk walk').1 in cc)
canon_once unique input first second (Some e) None (none, known, (all, walk)) (all', walk', is') =
    absurd (let same = (unique input all all' (Some e) None walk walk').1 in cc)
canon_once unique input first second (Some e) (Some f) (none, known, (all, walk)) (none', known', (all', walk')) =
    (none ∙ sym none', same_fault (Some e) (Some f) (unique input all all' (Some e) (Some f) walk walk').1)

-- a datagram has at most one walk
abbrev pub FramesUnique : Type 0
FramesUnique =
    (bytes : List ℕ) (a b : List (List ℕ)) (f g : Option DecodeError) → FrameWalk bytes a f → FrameWalk bytes b g → (a ≡ b) × (f ≡ g)

pub frames_once : FramesUnique → (input first second : List ℕ) (e f : Option DecodeError) → Makes Frames input first e
    → Makes Frames input second f → (first ≡ second) × SameFault e f
unfolding Makes
frames_once unique input first second e f (all, walk, is) (all', walk', is') =
    let same = unique input all all' e f walk walk' in
    (is ∙ ap frame_lines same.0 ∙ sym is', same_fault e f same.1)
