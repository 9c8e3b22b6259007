-- A packet that is not refused is not refused for its header.
use Rattle.std.proofs.Common.{◌≡◌, true, List, Ok, Err, refl}
use Rattle.std.specs.Result.{is_ok}
use Rattle.wire_format.specs.declared.server.ServerPacket.{ServerPacket}
use Rattle.wire_format.specs.declared.server.ServerPacket.TheVariants as down
use Rattle.wire_format.specs.declared.client.ClientPacket.{ClientPacket}
use Rattle.wire_format.specs.declared.client.ClientPacket.TheVariants as up
use Rattle.conn_packing.specs.stream_manager.declared.config.Config.{Config}
use Rattle.conn_packing.specs.stream_manager.declared.fault.HeadFault.{HeadFault}
use Rattle.conn_packing.specs.stream_manager.declared.fault.ArriveFault.{ArriveFault}
use Rattle.conn_packing.specs.stream_manager.declared.fault.ClientFault.{ClientFault}
use Rattle.tn_types.specs.Checks.{Checked, then_check}
use Rattle.conn_packing.specs.stream_manager.Faults.{head_at_server, head_at_client}
use Rattle.conn_packing.specs.stream_manager.End.{head_answer}
use Rattle.conn_packing.specs.stream_manager.Server as server_log
use Rattle.conn_packing.specs.stream_manager.Server.{ServerEvent, server_end, seen_up}
use Rattle.conn_packing.specs.stream_manager.Client as client_log
use Rattle.conn_packing.specs.stream_manager.Client.{ClientEvent, client_end, seen_down}

pub head-ok_down : (c : Config) (log : List ClientEvent) (p : ServerPacket) → is_ok (client_log.packet_check c log p) ≡ true → is_ok (head_answer c.client (client_end log) (seen_down p)) ≡ true
head-ok_down c log (down.Ping head) ok = go (head_answer c.client (client_end log) (seen_down (down.Ping head))) ok
  where
    go : (r : Checked HeadFault) → is_ok (head_at_client r) ≡ true → is_ok r ≡ true
    go (Ok x) ok = refl
    go (Err e) ok = cc
head-ok_down c log (down.Body p) ok = go (head_answer c.client (client_end log) (seen_down (down.Body p))) (client_log.body_check log p) ok
  where
    go : (r : Checked HeadFault) (next : Checked ClientFault) → is_ok (then_check (head_at_client r) next) ≡ true → is_ok r ≡ true
    go (Ok x) next ok = refl
    go (Err e) next ok = cc

pub head-ok_up : (c : Config) (log : List ServerEvent) (p : ClientPacket) → is_ok (server_log.packet_check c log p) ≡ true → is_ok (head_answer c.client (server_end log) (seen_up p)) ≡ true
head-ok_up c log (up.Ping head) ok = go (head_answer c.client (server_end log) (seen_up (up.Ping head))) ok
  where
    go : (r : Checked HeadFault) → is_ok (head_at_server r) ≡ true → is_ok r ≡ true
    go (Ok x) ok = refl
    go (Err e) ok = cc
head-ok_up c log (up.Body p) ok = go (head_answer c.client (server_end log) (seen_up (up.Body p))) (server_log.body_check c log p) ok
  where
    go : (r : Checked HeadFault) (next : Checked ArriveFault) → is_ok (then_check (head_at_server r) next) ≡ true → is_ok r ≡ true
    go (Ok x) next ok = refl
    go (Err e) next ok = cc
