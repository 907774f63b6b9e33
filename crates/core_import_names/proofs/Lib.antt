mod Readback
