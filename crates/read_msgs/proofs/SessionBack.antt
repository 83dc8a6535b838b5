-- A ReadSession and a CreateReadSessionRequest that were written read back.
use Rattle.std.proofs.Common.{◌≡◌, ℕ, ℤ, List, ◌++◌, map, Option, Ok, refl, arith}
use Rattle.std.proofs.Math.Facts.{Fits-of_z}
use Rattle.std.specs.Int.{w64, cast_unsigned}
use Rattle.std.specs.List.{AllByRecursion}
use Rattle.std.specs.Option.{option_map}
use Rattle.proto_fields.specs.Record.{Record}
use Rattle.proto_fields.specs.Message.{message_of}
use Rattle.proto_fields.specs.Selection.{bytes_for, varint_for}
use Rattle.write_msgs.specs.Reading.{records_of, text_in, int32_in, nested}
use Rattle.write_msgs.specs.Repeated.{repeated}
use Rattle.write_msgs.specs.Writing.{text_field, int_field, message_field, repeated_field}
use Rattle.write_msgs.specs.CommitParts.{timestamp_of}
use Rattle.write_msgs.specs.CommitPartsBytes.{timestamp_bytes}
use Rattle.write_msgs.proofs.ReadBack.{Numbered, records_back, numbered_both, text_numbered, message_numbered, repeated_numbered, varint_numbered, text_own, text_other, message_own, message_other, repeated_own, repeated_other, varint_own, varint_payloads, text_varints, in_front, behind, sizes_of_two, text_back, int32_back, wider, nested_back, repeated_back}
use Rattle.read_msgs.specs.declared.sessions.ReadSession.{ReadSession}
use Rattle.read_msgs.specs.Parts.{format_in}
use Rattle.read_msgs.specs.Options.{table_modifiers_of, table_read_options_of}
use Rattle.read_msgs.specs.OptionsBytes.{table_modifiers_bytes, table_read_options_bytes}
use Rattle.read_msgs.specs.Rows.{avro_schema_of}
use Rattle.read_msgs.specs.RowsBytes.{avro_schema_bytes}
use Rattle.read_msgs.specs.Streams.{read_stream_of}
use Rattle.read_msgs.specs.StreamsBytes.{read_stream_bytes}
use Rattle.read_msgs.specs.Sessions.{read_session_of, create_read_session_request_of}
use Rattle.read_msgs.specs.SessionsBytes.{read_session_bytes, create_read_session_request_bytes}
use Rattle.read_msgs.specs.RoundTrip.{IsTime, IsModifiers, IsOptions, IsAvroSchema, IsReadStream, IsSession, SessionsReadBack, CreateRequestsReadBack}
use Rattle.read_msgs.proofs.FieldLemmas.{message_varints, repeated_varints, first_of_four, second_of_four, third_of_four, fourth_of_four, first_of_five, second_of_five, third_of_five, fourth_of_five, fifth_of_five}
use Rattle.read_msgs.proofs.PartsBack.{time_back, modifiers_back, options_back, format_back, schema_back, stream_back}

session_from : (bytes : List ℕ) (records : List Record) (session : ReadSession) → records_of bytes ≡ Ok records → text_in 1 records ≡ Ok session.name → text_in 6 records ≡ Ok session.table
    → nested timestamp_of 2 bytes records ≡ Ok session.expire_time → nested avro_schema_of 4 bytes records ≡ Ok session.avro_schema
    → nested table_modifiers_of 7 bytes records ≡ Ok session.table_modifiers → nested table_read_options_of 8 bytes records ≡ Ok session.read_options
    → format_in records ≡ Ok session.data_format → repeated read_stream_of 10 bytes records ≡ Ok session.streams → read_session_of bytes ≡ Ok session
unfolding read_session_of
session_from bytes records session read p q r s t u v w = rw (read, p, q, r, s, t, u, v, w) refl

pub sessions_back : SessionsReadBack
unfolding read_session_bytes
sessions_back session holds short =
    let n : List ℕ = session.name in
    let e : Option (List ℕ) = option_map timestamp_bytes session.expire_time in
    let f : ℕ = cast_unsigned w64 session.data_format in
    let s : Option (List ℕ) = option_map avro_schema_bytes session.avro_schema in
    let t : List ℕ = session.table in
    let m : Option (List ℕ) = option_map table_modifiers_bytes session.table_modifiers in
    let o : Option (List ℕ) = option_map table_read_options_bytes session.read_options in
    let r : List (List ℕ) = map read_stream_bytes session.streams in
    let one : List Record = text_field 1 n in
    let two : List Record = message_field 2 e in
    let three : List Record = int_field 3 session.data_format in
    let four : List Record = message_field 4 s in
    let six : List Record = text_field 6 t in
    let seven : List Record = message_field 7 m in
    let eight : List Record = message_field 8 o in
    let ten : List Record = repeated_field 10 r in
    let front : List Record = one ++ two ++ three ++ four in
    let rs : List Record = front ++ six ++ seven ++ eight ++ ten in
    let wide = Fits-of_z (wider session.data_format holds.data_format) in
    let front_numbered : AllByRecursion Numbered front =
    numbered_both (one ++ two ++ three) four
    (
    numbered_both (one ++ two) three (numbered_both one two (text_numbered 1 n (omega arith) (omega arith)) (message_numbered 2 e (omega arith) (omega arith)))
    (varint_numbered 3 f wide.fits (omega arith) (omega arith))
    )
    (message_numbered 4 s (omega arith) (omega arith)) in
    let numbered : AllByRecursion Numbered rs =
    numbered_both (front ++ six ++ seven ++ eight) ten
    (
    numbered_both (front ++ six ++ seven) eight
    (numbered_both (front ++ six) seven (numbered_both front six front_numbered (text_numbered 6 t (omega arith) (omega arith))) (message_numbered 7 m (omega arith) (omega arith)))
    (message_numbered 8 o (omega arith) (omega arith))
    )
    (repeated_numbered 10 r (omega arith) (omega arith)) in
    let read : records_of (message_of rs) ≡ Ok rs = records_back rs numbered short in
    let to_ten = sizes_of_two (front ++ six ++ seven ++ eight) ten in
    let to_eight = sizes_of_two (front ++ six ++ seven) eight in
    let to_seven = sizes_of_two (front ++ six) seven in
    let to_six = sizes_of_two front six in
    let to_four = sizes_of_two (one ++ two ++ three) four in
    let to_three = sizes_of_two (one ++ two) three in
    let to_two = sizes_of_two one two in
    let name : text_in 1 rs ≡ Ok n =
    text_back 1 rs n
    (
    first_of_five (bytes_for 1) front six seven eight ten
    (first_of_four (bytes_for 1) one two three four (text_own 1 n refl) (message_other 1 2 e refl) (varint_payloads 1 3 f) (message_other 1 4 s refl)) (text_other 1 6 t refl) (message_other 1 7 m refl)
    (message_other 1 8 o refl) (repeated_other 1 10 r refl)
    ) holds.name in
    let expires : nested timestamp_of 2 (message_of rs) rs ≡ Ok session.expire_time =
    nested_back timestamp_of timestamp_bytes IsTime 2 (message_of rs) rs session.expire_time time_back
    (
    first_of_five (bytes_for 2) front six seven eight ten
    (second_of_four (bytes_for 2) one two three four (text_other 2 1 n refl) (message_own 2 e refl) (varint_payloads 2 3 f) (message_other 2 4 s refl)) (text_other 2 6 t refl) (message_other 2 7 m refl)
    (message_other 2 8 o refl) (repeated_other 2 10 r refl)
    ) (omega (arith, short, to_ten, to_eight, to_seven, to_six, to_four, to_three, to_two)) holds.expire_time in
    let format : format_in rs ≡ Ok session.data_format =
    format_back rs session.data_format
    (
    int32_back 3 rs session.data_format
    (
    first_of_five (varint_for 3) front six seven eight ten
    (third_of_four (varint_for 3) one two three four (text_varints 3 1 n) (message_varints 3 2 e) (varint_own 3 f refl) (message_varints 3 4 s)) (text_varints 3 6 t) (message_varints 3 7 m)
    (message_varints 3 8 o) (repeated_varints 3 10 r)
    ) holds.data_format
    ) holds.served in
    let schema : nested avro_schema_of 4 (message_of rs) rs ≡ Ok session.avro_schema =
    nested_back avro_schema_of avro_schema_bytes IsAvroSchema 4 (message_of rs) rs session.avro_schema schema_back
    (
    first_of_five (bytes_for 4) front six seven eight ten
    (fourth_of_four (bytes_for 4) one two three four (text_other 4 1 n refl) (message_other 4 2 e refl) (varint_payloads 4 3 f) (message_own 4 s refl)) (text_other 4 6 t refl) (message_other 4 7 m refl)
    (message_other 4 8 o refl) (repeated_other 4 10 r refl)
    ) (omega (arith, short, to_ten, to_eight, to_seven, to_six, to_four)) holds.avro_schema in
    let table : text_in 6 rs ≡ Ok t =
    text_back 6 rs t
    (
    second_of_five (bytes_for 6) front six seven eight ten
    (first_of_four (bytes_for 6) one two three four (text_other 6 1 n refl) (message_other 6 2 e refl) (varint_payloads 6 3 f) (message_other 6 4 s refl)) (text_own 6 t refl) (message_other 6 7 m refl)
    (message_other 6 8 o refl) (repeated_other 6 10 r refl)
    ) holds.table in
    let modifiers : nested table_modifiers_of 7 (message_of rs) rs ≡ Ok session.table_modifiers =
    nested_back table_modifiers_of table_modifiers_bytes IsModifiers 7 (message_of rs) rs session.table_modifiers modifiers_back
    (
    third_of_five (bytes_for 7) front six seven eight ten
    (first_of_four (bytes_for 7) one two three four (text_other 7 1 n refl) (message_other 7 2 e refl) (varint_payloads 7 3 f) (message_other 7 4 s refl)) (text_other 7 6 t refl) (message_own 7 m refl)
    (message_other 7 8 o refl) (repeated_other 7 10 r refl)
    ) (omega (arith, short, to_ten, to_eight, to_seven)) holds.table_modifiers in
    let options : nested table_read_options_of 8 (message_of rs) rs ≡ Ok session.read_options =
    nested_back table_read_options_of table_read_options_bytes IsOptions 8 (message_of rs) rs session.read_options options_back
    (
    fourth_of_five (bytes_for 8) front six seven eight ten
    (first_of_four (bytes_for 8) one two three four (text_other 8 1 n refl) (message_other 8 2 e refl) (varint_payloads 8 3 f) (message_other 8 4 s refl)) (text_other 8 6 t refl) (message_other 8 7 m refl)
    (message_own 8 o refl) (repeated_other 8 10 r refl)
    ) (omega (arith, short, to_ten, to_eight)) holds.read_options in
    let streams : repeated read_stream_of 10 (message_of rs) rs ≡ Ok session.streams =
    repeated_back read_stream_of read_stream_bytes IsReadStream 10 (message_of rs) rs session.streams stream_back
    (
    fifth_of_five (bytes_for 10) front six seven eight ten
    (first_of_four (bytes_for 10) one two three four (text_other 10 1 n refl) (message_other 10 2 e refl) (varint_payloads 10 3 f) (message_other 10 4 s refl)) (text_other 10 6 t refl) (message_other 10 7 m refl)
    (message_other 10 8 o refl) (repeated_own 10 r refl)
    ) (omega (arith, short, to_ten)) holds.streams in
    session_from (message_of rs) rs session read name table expires schema modifiers options format streams

create_from : (bytes : List ℕ) (records : List Record) (parent : List ℕ) (session : Option ReadSession) (count : ℤ) → records_of bytes ≡ Ok records → text_in 1 records ≡ Ok parent
    → nested read_session_of 2 bytes records ≡ Ok session → int32_in 3 records ≡ count → create_read_session_request_of bytes ≡ Ok (record { parent = parent; read_session = session; max_stream_count = count })
unfolding create_read_session_request_of
create_from bytes records parent session count read p q r = rw (read, p, q, r) refl

pub create_requests_back : CreateRequestsReadBack
unfolding create_read_session_request_bytes
create_requests_back request holds short =
    let t : List ℕ = request.parent in
    let s : Option (List ℕ) = option_map read_session_bytes request.read_session in
    let v : ℕ = cast_unsigned w64 request.max_stream_count in
    let one : List Record = text_field 1 t in
    let two : List Record = message_field 2 s in
    let three : List Record = int_field 3 request.max_stream_count in
    let front : List Record = one ++ two in
    let rs : List Record = front ++ three in
    let numbered : AllByRecursion Numbered rs =
    numbered_both front three (numbered_both one two (text_numbered 1 t (omega arith) (omega arith)) (message_numbered 2 s (omega arith) (omega arith)))
    (varint_numbered 3 v (Fits-of_z (wider request.max_stream_count holds.max_stream_count)).fits (omega arith) (omega arith)) in
    let whole = sizes_of_two front three in
    let sizes = sizes_of_two one two in
    create_from (message_of rs) rs t request.read_session request.max_stream_count (records_back rs numbered short)
    (text_back 1 rs t (in_front (bytes_for 1) front three (in_front (bytes_for 1) one two (text_own 1 t refl) (message_other 1 2 s refl)) (varint_payloads 1 3 v)) holds.parent)
    (
    nested_back read_session_of read_session_bytes IsSession 2 (message_of rs) rs request.read_session sessions_back
    (in_front (bytes_for 2) front three (behind (bytes_for 2) one two (text_other 2 1 t refl) (message_own 2 s refl)) (varint_payloads 2 3 v)) (omega (arith, short, whole, sizes)) holds.read_session
    )
    (int32_back 3 rs request.max_stream_count (behind (varint_for 3) front three (in_front (varint_for 3) one two (text_varints 3 1 t) (message_varints 3 2 s)) (varint_own 3 v refl)) holds.max_stream_count)
