-- The names of errors of the system (linux/errno.h), as `strerror` of glibc writes them.
use Rattle.std.specs.Prelude.{ℕ, ℤ, ◌==◌, List, [], ◌∷◌, ◌++◌, nat_lt, codes, unsigned_abs, if◌then◌else◌}
use Rattle.std.specs.Fmt.{signed_decimal}

-- of the errors up to 30
unfoldable pub error_to_30 : ℕ → List ℕ
error_to_30 n =
    if n == 1 then codes "Operation not permitted"
    else if n == 2 then codes "No such file or directory"
    else if n == 3 then codes "No such process"
    else if n == 4 then codes "Interrupted system call"
    else if n == 5 then codes "Input/output error"
    else if n == 6 then codes "No such device or address"
    else if n == 7 then codes "Argument list too long"
    else if n == 8 then codes "Exec format error"
    else if n == 9 then codes "Bad file descriptor"
    else if n == 10 then codes "No child processes"
    else if n == 11 then codes "Resource temporarily unavailable"
    else if n == 12 then codes "Cannot allocate memory"
    else if n == 13 then codes "Permission denied"
    else if n == 14 then codes "Bad address"
    else if n == 15 then codes "Block device required"
    else if n == 16 then codes "Device or resource busy"
    else if n == 17 then codes "File exists"
    else if n == 18 then codes "Invalid cross-device link"
    else if n == 19 then codes "No such device"
    else if n == 20 then codes "Not a directory"
    else if n == 21 then codes "Is a directory"
    else if n == 22 then codes "Invalid argument"
    else if n == 23 then codes "Too many open files in system"
    else if n == 24 then codes "Too many open files"
    else if n == 25 then codes "Inappropriate ioctl for device"
    else if n == 26 then codes "Text file busy"
    else if n == 27 then codes "File too large"
    else if n == 28 then codes "No space left on device"
    else if n == 29 then codes "Illegal seek"
    else if n == 30 then codes "Read-only file system"
    else []

-- of those from 31 to 60
unfoldable pub error_to_60 : ℕ → List ℕ
error_to_60 n =
    if n == 31 then codes "Too many links"
    else if n == 32 then codes "Broken pipe"
    else if n == 33 then codes "Numerical argument out of domain"
    else if n == 34 then codes "Numerical result out of range"
    else if n == 35 then codes "Resource deadlock avoided"
    else if n == 36 then codes "File name too long"
    else if n == 37 then codes "No locks available"
    else if n == 38 then codes "Function not implemented"
    else if n == 39 then codes "Directory not empty"
    else if n == 40 then codes "Too many levels of symbolic links"
    else if n == 42 then codes "No message of desired type"
    else if n == 43 then codes "Identifier removed"
    else if n == 44 then codes "Channel number out of range"
    else if n == 45 then codes "Level 2 not synchronized"
    else if n == 46 then codes "Level 3 halted"
    else if n == 47 then codes "Level 3 reset"
    else if n == 48 then codes "Link number out of range"
    else if n == 49 then codes "Protocol driver not attached"
    else if n == 50 then codes "No CSI structure available"
    else if n == 51 then codes "Level 2 halted"
    else if n == 52 then codes "Invalid exchange"
    else if n == 53 then codes "Invalid request descriptor"
    else if n == 54 then codes "Exchange full"
    else if n == 55 then codes "No anode"
    else if n == 56 then codes "Invalid request code"
    else if n == 57 then codes "Invalid slot"
    else if n == 59 then codes "Bad font file format"
    else if n == 60 then codes "Device not a stream"
    else []

-- of those from 61 to 90
unfoldable pub error_to_90 : ℕ → List ℕ
error_to_90 n =
    if n == 61 then codes "No data available"
    else if n == 62 then codes "Timer expired"
    else if n == 63 then codes "Out of streams resources"
    else if n == 64 then codes "Machine is not on the network"
    else if n == 65 then codes "Package not installed"
    else if n == 66 then codes "Object is remote"
    else if n == 67 then codes "Link has been severed"
    else if n == 68 then codes "Advertise error"
    else if n == 69 then codes "Srmount error"
    else if n == 70 then codes "Communication error on send"
    else if n == 71 then codes "Protocol error"
    else if n == 72 then codes "Multihop attempted"
    else if n == 73 then codes "RFS specific error"
    else if n == 74 then codes "Bad message"
    else if n == 75 then codes "Value too large for defined data type"
    else if n == 76 then codes "Name not unique on network"
    else if n == 77 then codes "File descriptor in bad state"
    else if n == 78 then codes "Remote address changed"
    else if n == 79 then codes "Can not access a needed shared library"
    else if n == 80 then codes "Accessing a corrupted shared library"
    else if n == 81 then codes ".lib section in a.out corrupted"
    else if n == 82 then codes "Attempting to link in too many shared libraries"
    else if n == 83 then codes "Cannot exec a shared library directly"
    else if n == 84 then codes "Invalid or incomplete multibyte or wide character"
    else if n == 85 then codes "Interrupted system call should be restarted"
    else if n == 86 then codes "Streams pipe error"
    else if n == 87 then codes "Too many users"
    else if n == 88 then codes "Socket operation on non-socket"
    else if n == 89 then codes "Destination address required"
    else if n == 90 then codes "Message too long"
    else []

-- of those from 91 to 120
unfoldable pub error_to_120 : ℕ → List ℕ
error_to_120 n =
    if n == 91 then codes "Protocol wrong type for socket"
    else if n == 92 then codes "Protocol not available"
    else if n == 93 then codes "Protocol not supported"
    else if n == 94 then codes "Socket type not supported"
    else if n == 95 then codes "Operation not supported"
    else if n == 96 then codes "Protocol family not supported"
    else if n == 97 then codes "Address family not supported by protocol"
    else if n == 98 then codes "Address already in use"
    else if n == 99 then codes "Cannot assign requested address"
    else if n == 100 then codes "Network is down"
    else if n == 101 then codes "Network is unreachable"
    else if n == 102 then codes "Network dropped connection on reset"
    else if n == 103 then codes "Software caused connection abort"
    else if n == 104 then codes "Connection reset by peer"
    else if n == 105 then codes "No buffer space available"
    else if n == 106 then codes "Transport endpoint is already connected"
    else if n == 107 then codes "Transport endpoint is not connected"
    else if n == 108 then codes "Cannot send after transport endpoint shutdown"
    else if n == 109 then codes "Too many references: cannot splice"
    else if n == 110 then codes "Connection timed out"
    else if n == 111 then codes "Connection refused"
    else if n == 112 then codes "Host is down"
    else if n == 113 then codes "No route to host"
    else if n == 114 then codes "Operation already in progress"
    else if n == 115 then codes "Operation now in progress"
    else if n == 116 then codes "Stale file handle"
    else if n == 117 then codes "Structure needs cleaning"
    else if n == 118 then codes "Not a XENIX named type file"
    else if n == 119 then codes "No XENIX semaphores available"
    else if n == 120 then codes "Is a named type file"
    else []

-- of those from 121 to 133
unfoldable pub error_to_133 : ℕ → List ℕ
error_to_133 n =
    if n == 121 then codes "Remote I/O error"
    else if n == 122 then codes "Disk quota exceeded"
    else if n == 123 then codes "No medium found"
    else if n == 124 then codes "Wrong medium type"
    else if n == 125 then codes "Operation canceled"
    else if n == 126 then codes "Required key not available"
    else if n == 127 then codes "Key has expired"
    else if n == 128 then codes "Key has been revoked"
    else if n == 129 then codes "Key was rejected by service"
    else if n == 130 then codes "Owner died"
    else if n == 131 then codes "State not recoverable"
    else if n == 132 then codes "Operation not possible due to RF-kill"
    else if n == 133 then codes "Memory page has hardware error"
    else []

unfoldable pub error_name : ℕ → List ℕ
error_name n =
    if nat_lt n 31 then error_to_30 n
    else if nat_lt n 61 then error_to_60 n
    else if nat_lt n 91 then error_to_90 n
    else if nat_lt n 121 then error_to_120 n
    else error_to_133 n

-- a code, and a name in parentheses, if it is not empty
abbrev pub named : List ℕ → List ℕ → List ℕ
named code [] = code
named code (c ∷ more) = code ++ (codes " (" ++ ((c ∷ more) ++ codes ")"))

-- a code, a negative errno, and its name
abbrev pub code_text : ℤ → List ℕ
code_text code = named (signed_decimal code) (error_name (unsigned_abs code))
