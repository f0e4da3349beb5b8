-- The numbers of an error, and the error that numbers identify.
use Rattle.std.specs.Prelude.{◌≡◌, ◌==◌, ℕ, Option, Some, None, refl, if◌then◌else◌}
use Rattle.std.specs.Option.{option_map}
use Rattle.netlink_family.specs.declared.error.FamilyError.{FamilyError}
use Rattle.netlink_family.specs.declared.error.FamilyError.TheVariants.{HeaderShort, InvalidAttribute, OutOfMemory, TooLong, UnknownType}
use Rattle.netlink_family.specs.declared.attribute_error.AttributeError.{AttributeError}
use Rattle.netlink_family.specs.declared.attribute_error.Reason.{Reason}
use Rattle.netlink_family.specs.declared.attribute_error.Reason.TheVariants.{InteriorNul, InvalidLength, LateChoice, NoMultiple, NotNulTerminated, Short, TooDeep, TooSmall, Truncated, WrongAddressSize, WrongSize}
use Rattle.netlink_route_c.specs.declared.error.ErrorNumbers.{ErrorNumbers}

-- numbers without a policy and an offset
abbrev pub with : ℕ → ℕ → ℕ → ℕ → ErrorNumbers
with reason kind expected received = record {
  reason = reason;
  kind = kind;
  policy = 0;
  offset = 0;
  expected = expected;
  received = received;
}

abbrev pub reason_numbers : Reason → ErrorNumbers
reason_numbers (Short received) = with 5 0 0 received
reason_numbers (Truncated expected received) = with 6 0 expected received
reason_numbers (InvalidLength received) = with 7 0 0 received
reason_numbers (WrongSize kind expected received) = with 42 kind expected received
reason_numbers (NotNulTerminated kind) = with 43 kind 0 0
reason_numbers (InteriorNul kind) = with 44 kind 0 0
reason_numbers (TooSmall kind expected received) = with 45 kind expected received
reason_numbers (NoMultiple kind expected received) = with 49 kind expected received
reason_numbers (WrongAddressSize kind received) = with 46 kind 0 received
reason_numbers (TooDeep kind) = with 47 kind 0 0
reason_numbers (LateChoice kind) = with 48 kind 0 0

abbrev pub attribute_numbers : AttributeError → ErrorNumbers
attribute_numbers error = record {
  reason = (reason_numbers error.reason).reason;
  kind = (reason_numbers error.reason).kind;
  policy = error.policy;
  offset = error.offset;
  expected = (reason_numbers error.reason).expected;
  received = (reason_numbers error.reason).received;
}

abbrev pub numbers_of : FamilyError → ErrorNumbers
numbers_of (UnknownType message_type) = with 40 message_type 0 0
numbers_of (HeaderShort expected received) = with 41 0 expected received
numbers_of (InvalidAttribute error) = attribute_numbers error
numbers_of TooLong = with 33 0 0 0
numbers_of OutOfMemory = with 16 0 0 0

abbrev pub reason_from : ErrorNumbers → Option Reason
reason_from numbers =
    if numbers.reason == 5 then Some (Short numbers.received)
    else if numbers.reason == 6 then Some (Truncated numbers.expected numbers.received)
    else if numbers.reason == 7 then Some (InvalidLength numbers.received)
    else if numbers.reason == 42 then Some (WrongSize numbers.kind numbers.expected numbers.received)
    else if numbers.reason == 43 then Some (NotNulTerminated numbers.kind)
    else if numbers.reason == 44 then Some (InteriorNul numbers.kind)
    else if numbers.reason == 45 then Some (TooSmall numbers.kind numbers.expected numbers.received)
    else if numbers.reason == 46 then Some (WrongAddressSize numbers.kind numbers.received)
    else if numbers.reason == 47 then Some (TooDeep numbers.kind)
    else if numbers.reason == 48 then Some (LateChoice numbers.kind)
    else if numbers.reason == 49 then Some (NoMultiple numbers.kind numbers.expected numbers.received)
    else None

abbrev pub attribute_from : ErrorNumbers → Reason → FamilyError
attribute_from numbers reason =
    InvalidAttribute (record { offset = numbers.offset; policy = numbers.policy; reason = reason })

abbrev pub error_from : ErrorNumbers → Option FamilyError
error_from numbers =
    if numbers.reason == 40 then Some (UnknownType numbers.kind)
    else if numbers.reason == 41 then Some (HeaderShort numbers.expected numbers.received)
    else if numbers.reason == 33 then Some TooLong
    else if numbers.reason == 16 then Some OutOfMemory
    else option_map (attribute_from numbers) (reason_from numbers)

-- the numbers of an error identify it
by_reason : (offset policy : ℕ) (reason : Reason)
    → error_from (attribute_numbers (record { offset = offset; policy = policy; reason = reason }))
    ≡ Some (InvalidAttribute (record { offset = offset; policy = policy; reason = reason }))
by_reason offset policy (Short received) = refl
by_reason offset policy (Truncated expected received) = refl
by_reason offset policy (InvalidLength received) = refl
by_reason offset policy (WrongSize kind expected received) = refl
by_reason offset policy (NotNulTerminated kind) = refl
by_reason offset policy (InteriorNul kind) = refl
by_reason offset policy (TooSmall kind expected received) = refl
by_reason offset policy (WrongAddressSize kind received) = refl
by_reason offset policy (TooDeep kind) = refl
by_reason offset policy (LateChoice kind) = refl
by_reason offset policy (NoMultiple kind expected received) = refl

pub error_again : (e : FamilyError) → error_from (numbers_of e) ≡ Some e
error_again (UnknownType message_type) = refl
error_again (HeaderShort expected received) = refl
error_again (InvalidAttribute error) = by_reason error.offset error.policy error.reason
error_again TooLong = refl
error_again OutOfMemory = refl

-- the answer is the reason of the error that was found, and the numbers are its
abbrev pub Refuses : Option FamilyError → ℕ → ErrorNumbers → Type 0
Refuses found answer numbers = (e : FamilyError) × (found ≡ Some e) × (answer ≡ (numbers_of e).reason)
    × (numbers ≡ numbers_of e)
