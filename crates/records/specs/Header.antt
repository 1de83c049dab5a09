-- The headers of a memory reply.
-- Assumes nothing.
use Rattle.std.specs.Prelude.{ℕ, ◌+◌, ◌-◌, List, ◌++◌}
use Rattle.wire.specs.BigEndian.{bytes_of}
use Rattle.model.specs.Messages.{DS-DATA}
use Rattle.model.specs.Layout.{ds_header_bytes, reply_header_bytes}

-- the headers of a memory reply whose records have `rest` bytes: DATA with its payload_len and handle, then type, argument, req_num
unfoldable pub memory_header : ℕ → ℕ → ℕ → ℕ → ℕ → List ℕ
memory_header handle type argument request rest =
    bytes_of 4 DS-DATA
    ++ bytes_of 4 (reply_header_bytes - ds_header_bytes + rest)
    ++ bytes_of 8 handle
    ++ bytes_of 4 type
    ++ bytes_of 4 argument
    ++ bytes_of 8 request
