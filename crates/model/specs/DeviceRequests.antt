-- 02, ticket 1, "Answer `dr-vio` inside, by source document 000": the form of a request, and what each does.
-- Assumes nothing.
use Rattle.std.specs.Prelude.{ℕ, ◌+◌, ◌-◌, Bool, true, false, not, List, [], ◌∷◌, ◌++◌, length, drop, ltb, eqb, Option, Some, None}
use Rattle.wire.specs.BigEndian.{byte_at, number_at, bytes_of}
use Rattle.basics.specs.Choice.{pick, ◌and◌, every}
use Rattle.model.specs.declared.DeviceOperation.{DeviceOperation}
use Rattle.model.specs.Layout.{device_service, device_number_bytes, device_header_bytes, Device, device_at, with_device}
use Rattle.model.specs.Devices.{named_device}
use Rattle.model.specs.Journal.{answered_event, device_event}
use Rattle.model.specs.Messages.{Effect, effect, ds_data}

-- Types of messages.
abbrev pub DR-VIO-CONFIGURE : ℕ
DR-VIO-CONFIGURE = 0x494f43

abbrev pub DR-VIO-UNCONFIGURE : ℕ
DR-VIO-UNCONFIGURE = 0x494f55

abbrev pub DR-VIO-FORCE-UNCONFIG : ℕ
DR-VIO-FORCE-UNCONFIG = 0x494f46

abbrev pub DR-VIO-STATUS : ℕ
DR-VIO-STATUS = 0x494f53

-- Result codes.
abbrev pub DR-VIO-RES-OK : ℕ
DR-VIO-RES-OK = 0

abbrev pub DR-VIO-RES-FAILURE : ℕ
DR-VIO-RES-FAILURE = 1

abbrev pub DR-VIO-RES-BLOCKED : ℕ
DR-VIO-RES-BLOCKED = 2

abbrev pub DR-VIO-RES-NOT-IN-MD : ℕ
DR-VIO-RES-NOT-IN-MD = 3

-- Status codes.
abbrev pub DR-VIO-STAT-NOT-PRESENT : ℕ
DR-VIO-STAT-NOT-PRESENT = 0

abbrev pub DR-VIO-STAT-UNCONFIGURED : ℕ
DR-VIO-STAT-UNCONFIGURED = 1

abbrev pub DR-VIO-STAT-CONFIGURED : ℕ
DR-VIO-STAT-CONFIGURED = 2

-- The four types: whether each asks for a change, and for which state (1 configured); whether a busy device blocks that change.
-- "Unconfigure of a busy device is BLOCKED; the forced form succeeds."
abbrev pub operation : Bool → ℕ → Bool → DeviceOperation
operation changes configured blockable = record { changes = changes; configured = configured; blockable = blockable }

unfoldable pub operation_of : ℕ → Option DeviceOperation
operation_of type =
    pick (eqb type DR-VIO-CONFIGURE) (Some (operation true 1 false))
    (pick (eqb type DR-VIO-UNCONFIGURE) (Some (operation true 0 true))
    (pick (eqb type DR-VIO-FORCE-UNCONFIG) (Some (operation true 0 false))
    (pick (eqb type DR-VIO-STATUS) (Some (operation false 0 false))
    None)))

-- The request b: what a data message holds from byte 16 on: req_num (8), dev_id (8), msg_type (4), name. "under 16 bytes req_num is 0"
unfoldable pub device_number : List ℕ → ℕ
device_number b = pick (ltb (length b) device_number_bytes) 0 (number_at b 0 8)

abbrev pub device_id : List ℕ → ℕ
device_id b = number_at b 8 8

abbrev pub device_type : List ℕ → ℕ
device_type b = number_at b device_number_bytes 4

abbrev pub device_name : List ℕ → List ℕ
device_name b = drop device_header_bytes b

-- "a name without its one zero at the end" is not of right form
unfoldable pub has_name : List ℕ → Bool
has_name b =
    ltb device_header_bytes (length b)
    and eqb (byte_at b (length b - 1)) 0
    and every (length b - 1 - device_header_bytes) (λ k. not (eqb (byte_at b (device_header_bytes + k)) 0))

-- The response: req_num, result, status, and "The reason string is one zero byte."
unfoldable pub device_reply : ℕ → ℕ → ℕ → ℕ → List ℕ
device_reply handle request result status =
    ds_data handle (bytes_of 8 request ++ bytes_of 4 result ++ bytes_of 4 status ++ (0 ∷ []))

-- "others write kind 10 with service 1 and the result as code": nothing is changed, and the status is 0, which is NOT_PRESENT's too
unfoldable pub answering_device : List ℕ → ℕ → ℕ → ℕ → ℕ → Effect
answering_device s c handle request result =
    effect (answered_event c device_service result request) s (device_reply handle request result DR-VIO-STAT-NOT-PRESENT)

-- "A device already as asked succeeds, tested before busy." A status request asks for no change.
unfoldable pub device_result : DeviceOperation → Device → ℕ
device_result o d =
    pick (not o.changes) DR-VIO-RES-OK
    (pick (eqb d.configured o.configured) DR-VIO-RES-OK
    (pick (o.blockable and eqb d.busy 1) DR-VIO-RES-BLOCKED
    DR-VIO-RES-OK))

-- the state of the device after the request: as asked, if a change was asked for and made
unfoldable pub configured_after : DeviceOperation → Device → ℕ
configured_after o d =
    pick (o.changes and eqb (device_result o d) DR-VIO-RES-OK) o.configured d.configured

unfoldable pub device_status : ℕ → ℕ
device_status configured = pick (eqb configured 1) DR-VIO-STAT-CONFIGURED DR-VIO-STAT-UNCONFIGURED

-- a known device asked for: "New entry kind 18 .. is written for requests of these four types that name a known device"
unfoldable pub asking_device : List ℕ → ℕ → ℕ → ℕ → DeviceOperation → ℕ → Effect
asking_device s c handle request o i =
    effect (device_event c (device_result o (device_at s i)) i (configured_after o (device_at s i)))
    (with_device s i (configured_after o (device_at s i)))
    (device_reply handle request (device_result o (device_at s i)) (device_status (configured_after o (device_at s i))))

-- "Unknown: NOT_IN_MD with status NOT_PRESENT for changes, FAILURE with status 0 for a status request."
unfoldable pub device_for : List ℕ → ℕ → ℕ → ℕ → DeviceOperation → Option ℕ → Effect
device_for s c handle request o (Some i) = asking_device s c handle request o i
device_for s c handle request o None =
    answering_device s c handle request (pick o.changes DR-VIO-RES-NOT-IN-MD DR-VIO-RES-FAILURE)

-- "An unknown message type, or a name without its one zero at the end, is FAILURE, status 0"
unfoldable pub device_asked : List ℕ → ℕ → ℕ → List ℕ → Option DeviceOperation → Effect
device_asked s c handle b (Some o) =
    device_for s c handle (device_number b) o (named_device s (device_id b) (device_name b))
device_asked s c handle b None = answering_device s c handle (device_number b) DR-VIO-RES-FAILURE

unfoldable pub answered_device : List ℕ → ℕ → ℕ → List ℕ → Effect
answered_device s c handle b =
    pick (has_name b)
    (device_asked s c handle b (operation_of (device_type b)))
    (answering_device s c handle (device_number b) DR-VIO-RES-FAILURE)
