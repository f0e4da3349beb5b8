-- The items do not depend on which datagram holds a frame.
use Rattle.std.proofs.Common.{◌≡◌, ℕ, List, [], ◌∷◌, ◌++◌, refl, ap, sym, ◌∙◌, Option, Some, None}
use Rattle.std.specs.List.{cons_option}
use Rattle.netlink_packet_core.specs.FrameWalkLaws.{frames_once}
use Rattle.netlink_replies.specs.Answers.{after, after_all, answers_in, item_of, items_of}
use Rattle.netlink_replies.specs.Groups.{HoldGroups, ReadsAllAs, joined}
use Rattle.netlink_replies.specs.Meaning.{Item}
use Rattle.netlink_replies.specs.declared.replies.Replies.{Replies}

item_first : (item : Option Item) (items later : List Item)
    → cons_option item items ++ later ≡ cons_option item (items ++ later)
item_first None items later = refl
item_first (Some item) items later = refl

pub answers-append : (s : Replies) (a b : List (List ℕ))
    → answers_in s (a ++ b) ≡ answers_in s a ++ answers_in (after_all s a) b
answers-append s [] b = refl
answers-append s (frame ∷ a) b =
    ap (cons_option (item_of s frame)) (answers-append (after s frame) a b)
    ∙ sym (item_first (item_of s frame) (answers_in (after s frame) a)
    (answers_in (after_all (after s frame) a) b))

pub after_all-append : (s : Replies) (a b : List (List ℕ))
    → after_all s (a ++ b) ≡ after_all (after_all s a) b
after_all-append s [] b = refl
after_all-append s (frame ∷ a) b = after_all-append (after s frame) a b

-- the datagrams are read as their frames
pub reads_joined : (s : Replies) (datagrams : List (List ℕ)) (groups : List (List (List ℕ)))
    (items : List Item) (last : Replies) → HoldGroups datagrams groups
    → ReadsAllAs s datagrams items last
    → (items ≡ answers_in s (joined groups)) × (last ≡ after_all s (joined groups))
reads_joined s [] [] items last hold reads = reads
reads_joined s [] (g ∷ groups) items last hold reads = absurd hold
reads_joined s (d ∷ datagrams) [] items last hold reads = absurd hold
reads_joined s (d ∷ datagrams) (g ∷ groups) items last (walk, hold) (first, middle, later, reads, is, more) =
    let same = frames_once d reads.frames g reads.error None reads.walk walk in
    let firsts : first ≡ answers_in s g =
    reads.items_are ∙ ap (λ (f : List (List ℕ)). items_of s f reads.error) same.0
    ∙ ap (items_of s g) same.1 in
    let middles : middle ≡ after_all s g = reads.last_is ∙ ap (after_all s) same.0 in
    let rest = reads_joined middle datagrams groups later last hold more in (
      is ∙ ap (λ (x : List Item). x ++ later) firsts
          ∙ ap (λ (x : List Item). answers_in s g ++ x)
          (rest.0 ∙ ap (λ (t : Replies). answers_in t (joined groups)) middles)
          ∙ sym (answers-append s g (joined groups)),
      rest.1 ∙ ap (λ (t : Replies). after_all t (joined groups)) middles
          ∙ sym (after_all-append s g (joined groups)),
    )

pub reads_alike : (s : Replies) (a b : List (List ℕ)) (f g : List (List (List ℕ)))
    (items others : List Item) (last end : Replies) → HoldGroups a f → HoldGroups b g
    → joined f ≡ joined g → ReadsAllAs s a items last → ReadsAllAs s b others end
    → (items ≡ others) × (last ≡ end)
reads_alike s a b f g items others last end hold holds same reads read =
    let one = reads_joined s a f items last hold reads in
    let two = reads_joined s b g others end holds read in (
      one.0 ∙ ap (answers_in s) same ∙ sym two.0,
      one.1 ∙ ap (after_all s) same ∙ sym two.1,
    )
