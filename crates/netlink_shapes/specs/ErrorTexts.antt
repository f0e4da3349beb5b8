-- The error texts, and which error means out of memory.
use Rattle.std.specs.Prelude.{ℕ, Bool, true, false, List, ◌++◌, codes, decimal}
use Rattle.netlink_shapes.specs.declared.error.FamilyError.{FamilyError}
use Rattle.netlink_shapes.specs.declared.error.FamilyError.TheVariants.{UnknownType, HeaderShort, InvalidAttribute, TooLong, OutOfMemory}
use Rattle.netlink_shapes.specs.declared.attribute_error.Reason.{Reason}
use Rattle.netlink_shapes.specs.declared.attribute_error.Reason.TheVariants.{Short, Truncated, InvalidLength, WrongSize, NotNulTerminated, InteriorNul, TooSmall, NoMultiple, WrongAddressSize, TooDeep, LateChoice}
use Rattle.netlink_shapes.specs.declared.attribute_error.AttributeError.{AttributeError}

abbrev pub wants_memory : FamilyError → Bool
wants_memory OutOfMemory = true
wants_memory _ = false

abbrev pub reason_text : Reason → List ℕ
reason_text (Short received) = decimal received ++ codes " bytes are too few for an attribute"
reason_text (Truncated expected received) =
    codes "an attribute of " ++ (decimal expected ++ (codes " bytes is truncated to " ++ decimal received))
reason_text (InvalidLength received) = codes "an attribute has length " ++ (decimal received ++ codes ", less than 4")
reason_text (WrongSize kind expected received) =
    codes "attribute " ++ (decimal kind ++ (codes " has a value of "
    ++ (decimal received ++ (codes " bytes instead of " ++ decimal expected))))
reason_text (NotNulTerminated kind) =
    codes "attribute " ++ (decimal kind ++ codes " is not a string whose only NUL is its last byte")
reason_text (InteriorNul kind) =
    codes "attribute " ++ (decimal kind ++ codes " is a string with a NUL before its last byte")
reason_text (TooSmall kind expected received) =
    codes "attribute " ++ (decimal kind ++ (codes " has a value of " ++ (decimal received
    ++ (codes " bytes instead of " ++ (decimal expected ++ codes " or more")))))
reason_text (NoMultiple kind expected received) =
    codes "attribute " ++ (decimal kind ++ (codes " has a value of " ++ (decimal received
    ++ (codes " bytes, no multiple of " ++ decimal expected))))
reason_text (WrongAddressSize kind received) =
    codes "attribute " ++ (decimal kind
    ++ (codes " has an address of " ++ (decimal received ++ codes " bytes instead of 4 or 16")))
reason_text (TooDeep kind) =
    codes "attribute " ++ (decimal kind ++ codes " is nested too deeply")
reason_text (LateChoice kind) =
    codes "attribute " ++ (decimal kind ++ codes " comes after an attribute whose shape it chooses")

abbrev pub attribute_error_text : AttributeError → List ℕ
attribute_error_text error =
    codes "at byte " ++ (decimal error.offset
    ++ (codes ", in policy " ++ (decimal error.policy ++ (codes ": " ++ reason_text error.reason))))

abbrev pub error_text : FamilyError → List ℕ
error_text (UnknownType message_type) =
    codes "message type " ++ (decimal message_type ++ codes " is not known")
error_text (HeaderShort expected received) =
    codes "the payload has " ++ (decimal received ++ (codes " bytes, fewer than its header of " ++ decimal expected))
error_text (InvalidAttribute error) = attribute_error_text error
error_text TooLong = codes "the attributes are too long"
error_text OutOfMemory = codes "out of memory"
