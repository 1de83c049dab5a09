-- "Memory messages (service 0)": the form of a request, and what each does.
-- Assumes nothing.
use Rattle.std.specs.Prelude.{ℕ, zero, suc, ◌+◌, ◌-◌, ◌*◌, ◌%◌, ◌^◌, Bool, true, false, not, List, [], ◌∷◌, ◌++◌, length, get_or, replicate, leb, ltb, eqb, Option, Some, None}
use Rattle.wire.specs.BigEndian.{number_at, bytes_of}
use Rattle.basics.specs.Choice.{pick, ◌and◌, ◌or◌, tabulate, joined}
use Rattle.model.specs.declared.Removal.{Removal}
use Rattle.model.specs.declared.Request.{Request}
use Rattle.model.specs.declared.Request.TheVariants.{Configure, Unconfigure, Query, Status, Cancel, Malformed}
use Rattle.model.specs.Layout.{memory_service, most_records, memory_header_bytes, pair_bytes, block_at, outstanding_of, numbered_at, highest_at, is_set, removal_of, with_configured, with_removal, with_number}
use Rattle.model.specs.Blocks.{page_size, named_block}
use Rattle.model.specs.Journal.{code_none, code_error, code_blocked, answered_event, configured_event, begun_event, cancelled_event}
use Rattle.model.specs.Messages.{Effect, effect, ds_data}

-- Types of messages.
abbrev pub DR-MEM-CONFIGURE : ℕ
DR-MEM-CONFIGURE = 0x4d43

abbrev pub DR-MEM-UNCONFIGURE : ℕ
DR-MEM-UNCONFIGURE = 0x4d55

abbrev pub DR-MEM-QUERY : ℕ
DR-MEM-QUERY = 0x4d51

abbrev pub DR-MEM-UNCONF-STATUS : ℕ
DR-MEM-UNCONF-STATUS = 0x4d53

abbrev pub DR-MEM-UNCONF-CANCEL : ℕ
DR-MEM-UNCONF-CANCEL = 0x4d4e

abbrev pub DR-MEM-OK : ℕ
DR-MEM-OK = 0x6f

abbrev pub DR-MEM-ERROR : ℕ
DR-MEM-ERROR = 0x65

-- Result codes.
abbrev pub DR-MEM-RES-OK : ℕ
DR-MEM-RES-OK = 0

abbrev pub DR-MEM-RES-FAILURE : ℕ
DR-MEM-RES-FAILURE = 1

abbrev pub DR-MEM-RES-BLOCKED : ℕ
DR-MEM-RES-BLOCKED = 2

abbrev pub DR-MEM-RES-CANCELLED : ℕ
DR-MEM-RES-CANCELLED = 3

abbrev pub DR-MEM-RES-NOWORK : ℕ
DR-MEM-RES-NOWORK = 4

abbrev pub DR-MEM-RES-PERM : ℕ
DR-MEM-RES-PERM = 5

-- The request b: what a data message holds from byte 16 on. "Header: type, argument (4 each), req_num (8)."
abbrev pub request_type : List ℕ → ℕ
request_type b = number_at b 0 4

abbrev pub argument_of : List ℕ → ℕ
argument_of b = number_at b 4 4

-- "the same req_num (0 if under 16 bytes)"
unfoldable pub request_number : List ℕ → ℕ
request_number b = pick (ltb (length b) memory_header_bytes) 0 (number_at b 8 8)

-- record i of a request: addr, size
abbrev pub addr_in : List ℕ → ℕ → ℕ
addr_in b i = number_at b (memory_header_bytes + i * pair_bytes) 8

abbrev pub size_in : List ℕ → ℕ → ℕ
size_in b i = number_at b (memory_header_bytes + 8 + i * pair_bytes) 8

-- "argument n from 1 to 16, exactly 16n bytes (addr, size) after the header"; 02, ticket 8: "64 records in a request". A pair may stand twice (02, ticket 2: "01 is wrong").
unfoldable pub has_records : List ℕ → Bool
has_records b =
    leb 1 (argument_of b)
    and leb (argument_of b) most_records
    and eqb (length b) (memory_header_bytes + argument_of b * pair_bytes)

-- "argument 0, nothing after"
unfoldable pub has_nothing : List ℕ → Bool
has_nothing b = eqb (argument_of b) 0 and eqb (length b) memory_header_bytes

-- the request that a list of bytes is; "Anything else: ERROR"
unfoldable pub request_of : List ℕ → Request
request_of b =
    pick (ltb (length b) memory_header_bytes) Malformed
    (pick (eqb (request_type b) DR-MEM-CONFIGURE and has_records b) (Configure (argument_of b))
    (pick (eqb (request_type b) DR-MEM-UNCONFIGURE and has_records b) (Unconfigure (argument_of b))
    (pick (eqb (request_type b) DR-MEM-QUERY and has_records b) (Query (argument_of b))
    (pick (eqb (request_type b) DR-MEM-UNCONF-STATUS and has_nothing b) Status
    (pick (eqb (request_type b) DR-MEM-UNCONF-CANCEL and has_nothing b) Cancel
    Malformed)))))

-- "Replies travel as DATA under the same handle."
unfoldable pub memory_reply : ℕ → ℕ → ℕ → ℕ → List ℕ → List ℕ
memory_reply handle type argument request records =
    ds_data handle (bytes_of 4 type ++ bytes_of 4 argument ++ bytes_of 8 request ++ records)

-- "status after the request (0 unknown, 1 unconfigured, 2 configured)"
unfoldable pub status_at : List ℕ → Option ℕ → ℕ
status_at s (Some i) = pick (eqb (block_at s i).configured 1) 2 1
status_at s None = 0

abbrev pub status_of : List ℕ → ℕ → ℕ → ℕ
status_of s addr size = status_at s (named_block s addr size)

-- "Result records have 28 bytes: addr, size, result, status after the request .., string offset 0."
unfoldable pub result_record : List ℕ → ℕ → ℕ → ℕ → List ℕ
result_record s addr size result =
    bytes_of 8 addr ++ bytes_of 8 size ++ bytes_of 4 result ++ bytes_of 4 (status_of s addr size) ++ bytes_of 4 0

-- the permanent bytes of the block that a pair names, and the first permanent address; "An unknown block counts as wholly permanent"
unfoldable pub permanent_bytes : List ℕ → ℕ → Option ℕ → ℕ
permanent_bytes s size (Some i) = (block_at s i).permanent * page_size
permanent_bytes s size None = size

unfoldable pub permanent_first : List ℕ → ℕ → Option ℕ → ℕ
permanent_first s addr (Some i) = (block_at s i).base + (block_at s i).first * page_size
permanent_first s addr None = addr

-- "all three 0 if none. .. size, addr, addr + size − 1 wrapped at 2^64; size 0 gives three zeros."
unfoldable pub permanent_range : ℕ → ℕ → List ℕ
permanent_range bytes first =
    pick (eqb bytes 0)
    (bytes_of 8 0 ++ bytes_of 8 0 ++ bytes_of 8 0)
    (bytes_of 8 bytes ++ bytes_of 8 first ++ bytes_of 8 ((first + bytes - 1) % 2 ^ 64))

-- "QUERY, 40 bytes a record: addr, size, permanent bytes, first and last permanent address (last byte)"
unfoldable pub query_record : List ℕ → ℕ → ℕ → List ℕ
query_record s addr size =
    bytes_of 8 addr
    ++ bytes_of 8 size
    ++ permanent_range (permanent_bytes s size (named_block s addr size)) (permanent_first s addr (named_block s addr size))

-- a request that changes nothing, answered
unfoldable pub answering : List ℕ → ℕ → ℕ → ℕ → List ℕ → Effect
answering s c code request reply = effect (answered_event c memory_service code request) s reply

-- "ERROR 0x65, argument 0, the same req_num .., no more."
unfoldable pub answering_error : List ℕ → ℕ → ℕ → ℕ → Effect
answering_error s c handle request = answering s c code_error request (memory_reply handle DR-MEM-ERROR 0 request [])

-- "CONFIGURE or UNCONFIGURE while a removal is outstanding: every record BLOCKED (2)."
unfoldable pub blocked : List ℕ → ℕ → ℕ → ℕ → List ℕ → ℕ → Effect
blocked s c handle request b n =
    answering s c code_blocked request
    (memory_reply handle DR-MEM-OK n request
    (joined (λ i. result_record s (addr_in b i) (size_in b i) DR-MEM-RES-BLOCKED) n))

-- CONFIGURE after some of its records: the state, the blocks configured (bit i for block i), whether one was unknown, and the results
pub record Progress : Type 0 where
  pub state : List ℕ
  pub mask : ℕ
  pub failed : Bool
  pub results : List ℕ

unfoldable pub one_failed : Progress → Progress
one_failed p = record {
  state = p.state;
  mask = p.mask;
  failed = true;
  results = p.results ++ (DR-MEM-RES-FAILURE ∷ []);
}

unfoldable pub one_configured : Progress → ℕ → Progress
one_configured p i = record {
  state = with_configured p.state i 1;
  mask = p.mask + 2 ^ i;
  failed = false;
  results = p.results ++ (DR-MEM-RES-OK ∷ []);
}

unfoldable pub one_unchanged : Progress → Progress
one_unchanged p = record {
  state = p.state;
  mask = p.mask;
  failed = false;
  results = p.results ++ (DR-MEM-RES-NOWORK ∷ []);
}

-- "unconfigured gives OK (0) and configures, configured gives NOWORK (4), unknown gives FAILURE (1)"
unfoldable pub configure_at : Progress → Option ℕ → Progress
configure_at p (Some i) = pick (eqb (block_at p.state i).configured 0) (one_configured p i) (one_unchanged p)
configure_at p None = one_failed p

-- "and so does every record after it"
unfoldable pub configure_one : Progress → ℕ → ℕ → Progress
configure_one p addr size = pick p.failed (one_failed p) (configure_at p (named_block p.state addr size))

-- "CONFIGURE: in order": after the first n records
unfoldable pub configured_by : List ℕ → List ℕ → ℕ → Progress
configured_by s b zero = record { state = s; mask = 0; failed = false; results = [] }
configured_by s b (suc n) = configure_one (configured_by s b n) (addr_in b n) (size_in b n)

unfoldable pub configure_reply : Progress → ℕ → ℕ → List ℕ → ℕ → List ℕ
configure_reply p handle request b n =
    memory_reply handle DR-MEM-OK n request
    (joined (λ i. result_record p.state (addr_in b i) (size_in b i) (get_or p.results i 0)) n)

-- kind 11 where a block was configured, else kind 10
unfoldable pub answering_configure : Progress → ℕ → ℕ → ℕ → List ℕ → ℕ → Effect
answering_configure p c handle request b n =
    pick (eqb p.mask 0)
    (answering p.state c code_none request (configure_reply p handle request b n))
    (effect (configured_event c p.mask) p.state (configure_reply p handle request b n))

-- "UNCONFIGURE is begun; its reply comes from work."
unfoldable pub new_removal : ℕ → ℕ → ℕ → List ℕ → ℕ → Removal
new_removal c handle request b n = record {
  cancelled = false;
  channel = c;
  handle = handle;
  request = request;
  count = n;
  position = 0;
  collected = 0;
  address = tabulate (λ i. addr_in b i) most_records;
  size = tabulate (λ i. size_in b i) most_records;
  result = replicate most_records 0;
}

unfoldable pub beginning : List ℕ → ℕ → ℕ → ℕ → List ℕ → ℕ → Effect
beginning s c handle request b n = effect (begun_event c n request) (with_removal s (new_removal c handle request b n)) []

-- QUERY changes nothing
unfoldable pub querying : List ℕ → ℕ → ℕ → ℕ → List ℕ → ℕ → Effect
querying s c handle request b n =
    answering s c code_none request
    (memory_reply handle DR-MEM-OK n request (joined (λ i. query_record s (addr_in b i) (size_in b i)) n))

-- "STATUS: argument 0 if none is outstanding, else 1 and total (size of the record at the position) and collected bytes, both 0 once all
-- are settled."
unfoldable pub status_record : Removal → List ℕ
status_record m =
    pick (ltb m.position m.count)
    (bytes_of 8 (get_or m.size m.position 0) ++ bytes_of 8 (m.collected * page_size))
    (bytes_of 8 0 ++ bytes_of 8 0)

unfoldable pub reporting : List ℕ → ℕ → ℕ → ℕ → Effect
reporting s c handle request =
    answering s c code_none request
    (pick (is_set (outstanding_of s))
    (memory_reply handle DR-MEM-OK 1 request (status_record (removal_of s)))
    (memory_reply handle DR-MEM-OK 0 request []))

-- "An outstanding removal is marked and its collected pages go back to 0"
unfoldable pub marked : Removal → Removal
marked m = record {
  cancelled = true;
  channel = m.channel;
  handle = m.handle;
  request = m.request;
  count = m.count;
  position = m.position;
  collected = 0;
  address = m.address;
  size = m.size;
  result = m.result;
}

-- "CANCEL: reply argument 0. .. a second CANCEL changes nothing."
unfoldable pub cancelling : List ℕ → ℕ → ℕ → ℕ → Effect
cancelling s c handle request =
    pick (is_set (outstanding_of s) and not (removal_of s).cancelled)
    (effect (cancelled_event c request)
    (with_removal s (marked (removal_of s)))
    (memory_reply handle DR-MEM-OK 0 request []))
    (answering s c code_none request (memory_reply handle DR-MEM-OK 0 request []))

unfoldable pub requested : List ℕ → ℕ → ℕ → ℕ → List ℕ → Request → Effect
requested s c handle request b (Configure n) =
    pick (is_set (outstanding_of s))
    (blocked s c handle request b n)
    (answering_configure (configured_by s b n) c handle request b n)
requested s c handle request b (Unconfigure n) =
    pick (is_set (outstanding_of s)) (blocked s c handle request b n) (beginning s c handle request b n)
requested s c handle request b (Query n) = querying s c handle request b n
requested s c handle request b Status = reporting s c handle request
requested s c handle request b Cancel = cancelling s c handle request
requested s c handle request b Malformed = answering_error s c handle request

-- 02, ticket 4. A request of right form: whatever is not answered ERROR for its form.
abbrev pub right_form : Request → Bool
right_form (Configure n) = true
right_form (Unconfigure n) = true
right_form (Query n) = true
right_form Status = true
right_form Cancel = true
right_form Malformed = false

-- "above all earlier ones of right form" on channel c's registration; "The first request after a registration may have any number."
unfoldable pub rises : List ℕ → ℕ → ℕ → Bool
rises s c number = not (is_set (numbered_at s c)) or ltb (highest_at s c) number

-- What the memory service does with the bytes b under a handle of channel c: "a memory request whose number is not above all earlier ones of right form is
-- answered ERROR with its number, before BLOCKED is considered"; one of right form that rises is the highest now. (So `requested` is given no `Malformed`.)
unfoldable pub answered_memory : List ℕ → ℕ → ℕ → List ℕ → Effect
answered_memory s c handle b =
    pick (right_form (request_of b) and rises s c (request_number b))
    (requested (with_number s c 1 (request_number b)) c handle (request_number b) b (request_of b))
    (answering_error s c handle (request_number b))
