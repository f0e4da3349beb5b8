-- Calls of `next` on an iterator give the reading of the bytes.
use Rattle.std.proofs.Common.{◌≡◌, ℕ, List, [], ◌∷◌, refl, ap, sym, subst, ◌∙◌, None, Result, Bor}
use Rattle.std.specs.Prelude.{map}
use Rattle.std.specs.Iterator.{YieldsThen}
use Rattle.netlink_packet_core.specs.DecodeError.{DecodeError}
use Rattle.netlink_packet_core.specs.FrameWalkLaws.{has_frames}
use Rattle.netlink_replies.specs.Answers.{after_all, items_of}
use Rattle.netlink_replies.specs.Meaning.{Item, shown_result}
use Rattle.netlink_replies.specs.ReadingSteps.{GivesReplies, reading_steps, state_of, unread_of}
use Rattle.netlink_replies.specs.Reads.{ReadsAs}
use Rattle.netlink_replies.specs.declared.reading.Reading.{Reading}
use Rattle.netlink_replies.specs.declared.replies.Replies.{Replies}
use Rattle.netlink_replies.specs.declared.reply.Reply.{Reply}

-- every list of bytes has a reading
pub reads_some : (s : Replies) (bytes : List ℕ) → (items : List Item) × (last : Replies) × ReadsAs s bytes items last
reads_some s bytes =
    let whole = has_frames bytes in (
      items_of s whole.0 whole.1,
      after_all s whole.0,
      record { frames = whole.0; error = whole.1; walk = whole.2; items_are = refl; last_is = refl },
    )

given_reads : (reading : Reading) (given : List (Result (Reply (Bor (List ℕ))) DecodeError)) (end : Reading)
    (items : List Item) (last : Replies)
    → YieldsThen reading_steps reading given None end
    → ReadsAs (state_of reading) (unread_of reading) items last
    → (map shown_result given ≡ items) × (state_of end ≡ last)
given_reads reading [] end items last (t, same, ended) reads =
    let reads' =
    subst (λ (r : Reading). ReadsAs (state_of r) (unread_of r) items last) same reads in
    let none = ended.0.1 items last reads' in
    (sym none.0, none.1)
given_reads reading (item ∷ given) end items last (t, (next, gives, yields), ended) reads =
    let first = gives.0 items last reads in
    let later = given_reads next given end first.0 last (t, yields, ended) first.2 in
    (ap (λ (x : List Item). shown_result item ∷ x) later.0 ∙ sym first.1, later.1)

pub gives_replies : (reading : Reading) → GivesReplies reading
gives_replies reading =
    let whole = reads_some (state_of reading) (unread_of reading) in (
      whole.0,
      whole.1,
      whole.2,
      λ given end yields. given_reads reading given end whole.0 whole.1 yields whole.2,
    )
