-- Times in hundredths of a second.
use Rattle.std.specs.Prelude.{ℕ, ◌==◌, ◌/◌, ◌%◌, not, List, [], ◌++◌, Option, Some, None, codes, decimal, if◌then◌else◌}
use Rattle.netlink_words.specs.Parts.{keyed}

-- a time in seconds, without zeros at the end
abbrev pub time_text : ℕ → List ℕ
time_text n =
    if not (n % 10 == 0) then decimal (n / 100) ++ (codes "." ++ (decimal (n % 100 / 10) ++ decimal (n % 10)))
    else if not (n % 100 / 10 == 0) then decimal (n / 100) ++ (codes "." ++ decimal (n % 100 / 10))
    else decimal (n / 100)

-- a key and a time, if there is one
unfoldable pub time_part : List ℕ → Option ℕ → List ℕ
time_part key None = []
time_part key (Some n) = keyed key (time_text n)
